-- What a step leaves that was refused, or whose rows weren't written.
use Rattle.std.proofs.Common.{◌≡◌, ◌≢◌, ◌⊎◌, false, Some, Err, refl, sym, ◌∙◌, ap, subst, ⊎_elim}
use Rattle.sqlite.specs.State.{State}
use Rattle.site_core.specs.Records.{Record}
use Rattle.site_core.specs.Steps.{Refuses, CopiesRecord}
use Rattle.site_core.specs.declared.inputs.SiteInput.{SiteInput}
use Rattle.site_core.specs.declared.outcomes.Refusal.{Refusal}
use Rattle.site_core.specs.declared.outcomes.Refusal.TheVariants as refusals
use Rattle.keeper_core.specs.declared.faults.KeepFault.{KeepFault}
use Rattle.keeper_core.specs.declared.faults.KeepFault.TheVariants.{Device, Store}
use Rattle.keeper_core.specs.Keeping.{IsAfter, fault_of}
use Rattle.site_store.specs.declared.kept.Kept.{Kept}
use Rattle.site_store.specs.Kept.{StepsKept, KeepsAfter, LeavesAny, closed_at, failures_after}
use Rattle.site_store.specs.Standing.{Standing, StandsIn}
use Rattle.site_store.specs.StepWritten.{Keeps}

-- a step whose rows weren't written closes
pub closed_step : (old new : Kept) (mid : Standing) (input : SiteInput) (fault : KeepFault) → ((next : Record) × IsAfter old.standing.state input next) → mid ≡ record old.standing { pending = Some input } → (fault ≡ Device) ⊎ (fault ≡ Store)
    → new ≡ record old { standing = mid; is_open = false; failures = failures_after fault old.failures } → StepsKept old input (Err fault) new
closed_step old new mid input fault after pending kind closed =
    let is : new ≡ closed_at old input fault = closed ∙ ap (λ (s : Standing). record old { standing = s; is_open = false; failures = failures_after fault old.failures }) pending in
    ⊎_elim
    (λ e. subst (λ f. StepsKept old input (Err f) new) (sym e) (after, is ∙ ap (closed_at old input) e))
    (λ e. subst (λ f. StepsKept old input (Err f) new) (sym e) (after, is ∙ ap (closed_at old input) e)) kind

-- and a crash leaves the rows of one of the records in which it may be opened
pub closed_keeps : (new : Kept) (mid : Standing) (fault : KeepFault) (s : State) → (fault ≡ Device) ⊎ (fault ≡ Store) → new.standing ≡ mid → LeavesAny (StandsIn mid) s → KeepsAfter new (Err fault) s
closed_keeps new mid fault s kind same leaves =
    let any : LeavesAny (StandsIn new.standing) s = subst (λ (m : Standing). LeavesAny (StandsIn m) s) (sym same) leaves in
    ⊎_elim (λ is. subst (λ f. KeepsAfter new (Err f) s) (sym is) any) (λ is. subst (λ f. KeepsAfter new (Err f) s) (sym is) any) kind

-- an input that is refused, for whatever reason
pub refused_step : (old new : Kept) (input : SiteInput) (why : Refusal) → CopiesRecord old.standing.state input → Refuses old.standing.state input why → new ≡ old → StepsKept old input (Err (fault_of why)) new
refused_step old new input refusals.NoMemory copies refuses same = (copies, same)
refused_step old new input (refusals.Blocked r i n) copies refuses same = ((λ e. cc, refuses), same)
refused_step old new input (refusals.IdTaken n) copies refuses same = ((λ e. cc, refuses), same)
refused_step old new input refusals.UnknownItem copies refuses same = ((λ e. cc, refuses), same)
refused_step old new input refusals.NotMine copies refuses same = ((λ e. cc, refuses), same)
refused_step old new input refusals.NumbersSpent copies refuses same = ((λ e. cc, refuses), same)
refused_step old new input (refusals.Doc fault) copies refuses same = ((λ e. cc, refuses), same)

-- and for another than memory
pub refused_look : (old new : Kept) (input : SiteInput) (why : Refusal) → why ≢ refusals.NoMemory → Refuses old.standing.state input why → new ≡ old → StepsKept old input (Err (fault_of why)) new
refused_look old new input refusals.NoMemory other refuses same = absurd (other refl)
refused_look old new input (refusals.Blocked r i n) other refuses same = ((other, refuses), same)
refused_look old new input (refusals.IdTaken n) other refuses same = ((other, refuses), same)
refused_look old new input refusals.UnknownItem other refuses same = ((other, refuses), same)
refused_look old new input refusals.NotMine other refuses same = ((other, refuses), same)
refused_look old new input refusals.NumbersSpent other refuses same = ((other, refuses), same)
refused_look old new input (refusals.Doc fault) other refuses same = ((other, refuses), same)

-- the tables hold what they held
pub refused_keeps : (new : Kept) (why : Refusal) (s : State) → Keeps new.standing.state s → KeepsAfter new (Err (fault_of why)) s
refused_keeps new refusals.NoMemory s it = it
refused_keeps new (refusals.Blocked r i n) s it = it
refused_keeps new (refusals.IdTaken n) s it = it
refused_keeps new refusals.UnknownItem s it = it
refused_keeps new refusals.NotMine s it = it
refused_keeps new refusals.NumbersSpent s it = it
refused_keeps new (refusals.Doc fault) s it = it
