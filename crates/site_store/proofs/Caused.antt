-- Why a step that closes failed.
use Rattle.std.specs.Prelude.{⊤}
use Rattle.std.proofs.Common.{◌≡◌, Bool, true, false, inl, inr, IsTrue, refl, sym, ◌∙◌, ap, subst, if◌then◌else◌}
use Rattle.sqlite_trees.specs.declared.error.StoreError.{StoreError}
use Rattle.sqlite_trees.specs.declared.error.StoreError.TheVariants.{OutOfMemory, Io, Corrupt, Full, Broken, Unstorable}
use Rattle.sqlite_disk.specs.Disk.{MoreFaults}
use Rattle.sqlite.specs.State.{State, HasCause, store_error}
use Rattle.sqlite.specs.declared.error.Error.{Error}
use Rattle.sqlite.specs.declared.error.Error.TheVariants.{SqliteFailure, SqlInputError, InvalidQuery}
use Rattle.sqlite.specs.declared.error.ErrorCode.{ErrorCode}
use Rattle.sqlite.specs.declared.error.ErrorCode.TheVariants as code
use Rattle.keeper_core.specs.declared.faults.KeepFault.TheVariants.{NoMemory, Device, Store}
use Rattle.site_core.specs.declared.outcomes.Refusal.{Refusal}
use Rattle.site_core.specs.declared.outcomes.Refusal.TheVariants as refusals
use Rattle.keeper_core.specs.Keeping.{fault_of}
use Rattle.site_tables.specs.Causes.{HasReason, IsRefusal, is_of_refusal, is_code_of_refusal}
use Rattle.site_tables.specs.Reads.{FailsToRead}
use Rattle.site_tables.specs.Unreadable.{IsUnreadable}
use Rattle.site_tables.specs.declared.faults.ReadFault.TheVariants.{Database}
use Rattle.site_store.specs.Openings.{opening_fault}
use Rattle.site_store.specs.Faults.{is_of_device, is_of_memory, is_code_of_device, closing_fault, IsCaused, IsFailedIn}
use Rattle.site_tables.proofs.Refusals.{refusals_are_named}

-- no refusal is an error of the device
code_refuses : (c : ErrorCode) → is_code_of_refusal c ≡ true → is_code_of_device c ≡ false
code_refuses (code.ConstraintViolation rule) h = refl
code_refuses code.TypeMismatch h = refl
code_refuses code.IntegerOverflow h = refl
code_refuses code.NoRowid h = refl
code_refuses code.ForeignKeyMismatch h = refl
code_refuses code.TooDeep h = refl
code_refuses code.NameTaken h = refl
code_refuses code.BadName h = refl
code_refuses code.BadKey h = refl
code_refuses code.BadText h = refl
code_refuses code.SchemaTooBig h = refl
code_refuses code.OperationInterrupted h = refl
code_refuses _ h = absurd (let e : false ≡ true = h in cc)

refuses : (error : Error) → is_of_refusal error ≡ true → is_of_device error ≡ false
refuses (SqliteFailure c) h = code_refuses c h
refuses (SqlInputError why) h = refl
refuses InvalidQuery h = refl
refuses _ h = absurd (let e : false ≡ true = h in cc)

refused : (old new : State) (error : Error) → IsRefusal error → IsCaused old new (closing_fault error)
refused old new error h =
    let no_device : is_of_device error ≡ false = refuses error (refusals_are_named error h) in
    subst (λ b. IsCaused old new (if b then Device else Store)) (sym no_device) (error, inl h)

failed : (old new : State) (cause : StoreError) → IsTrue old.is_open → HasCause old new ⊤ cause → IsCaused old new (closing_fault (store_error cause))
failed old new OutOfMemory live h = (SqliteFailure code.OutOfMemory, inr (inr refl))
failed old new Io live h = h
failed old new Corrupt live h = h
failed old new Full live h = h
failed old new Broken live h = absurd (let e : true ≡ false = sym live ∙ h in cc)
failed old new Unstorable live h = (SqliteFailure code.TooBig, inr (inl refl))

-- the fault that closes has the cause that the database had
pub closing_caused : (old new : State) (error : Error) → IsTrue old.is_open → HasReason old new error → IsCaused old new (closing_fault error)
closing_caused old new error live (inl (cause, is, why)) = subst (λ e. IsCaused old new (closing_fault e)) (sym is) (failed old new cause live why)
closing_caused old new error live (inr h) = refused old new error h

-- what the step itself refuses has none
pub refused_caused : (old new : State) (why : Refusal) → IsCaused old new (fault_of why)
refused_caused old new refusals.NoMemory = tt
refused_caused old new (refusals.Blocked r i n) = tt
refused_caused old new (refusals.IdTaken n) = tt
refused_caused old new refusals.UnknownItem = tt
refused_caused old new refusals.NotMine = tt
refused_caused old new refusals.NumbersSpent = tt
refused_caused old new (refusals.Doc fault) = tt

-- ---- openings

device_of : (error : Error) (a b : Bool) → (if a then Device else if b then NoMemory else Store) ≡ Device → a ≡ true
device_of error true b h = refl
device_of error false true h = absurd (let e : NoMemory ≡ Device = h in cc)
device_of error false false h = absurd (let e : Store ≡ Device = h in cc)

-- the device is blamed for no other error than one of the device
pub blamed_device : (error : Error) → opening_fault error ≡ Device → is_of_device error ≡ true
blamed_device error h = device_of error (is_of_device error) (is_of_memory error) h

read_failed : (old new : State) (cause : StoreError) → is_of_device (store_error cause) ≡ true → HasCause old new ⊥ cause → IsFailedIn old new
read_failed old new OutOfMemory is h = absurd (let e : false ≡ true = is in cc)
read_failed old new Io is h = inr h
read_failed old new Corrupt is h = inr h
read_failed old new Full is h = inr h
read_failed old new Broken is h = inl h
read_failed old new Unstorable is h = absurd h

fails_to_read : (old new : State) (error : Error) → is_of_device error ≡ true → FailsToRead old new error → IsFailedIn old new
fails_to_read old new error is (inl (cause, same, why)) = read_failed old new cause (ap is_of_device (sym same) ∙ is) why
fails_to_read old new error is (inr (same, limited)) = absurd (let e : false ≡ true = ap is_of_device (sym same) ∙ is in cc)

-- a reading for which the device is blamed
pub reading_failed : (old new : State) (error : Error) → opening_fault error ≡ Device → IsUnreadable old new (Database error) → IsFailedIn old new
reading_failed old new error is h = fails_to_read old new error (blamed_device error is) h.1.1

-- over a connection that was open
pub failed_in : (old new : State) → IsTrue old.is_open → IsFailedIn old new → MoreFaults old.faults new.faults
failed_in old new live (inl shut) = absurd (let e : true ≡ false = sym live ∙ shut in cc)
failed_in old new live (inr more) = more
