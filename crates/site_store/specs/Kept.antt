-- A record that a database keeps, and what a step of it does.
use Rattle.std.specs.Prelude.{◌≡◌, ⊤, ℕ, Bool, true, false, Option, Some, None, Result, Ok, Err, if◌then◌else◌}
use Rattle.sqlite.specs.State.{State}
use Rattle.site_core.specs.Records.{Record}
use Rattle.site_core.specs.Steps.{Does, CopiesRecord, changes}
use Rattle.site_core.specs.declared.inputs.SiteInput.{SiteInput}
use Rattle.site_core.specs.declared.outcomes.Effects.{Effects}
use Rattle.keeper_core.specs.declared.faults.Keep.{Keep}
use Rattle.keeper_core.specs.declared.faults.Keep.TheVariants.{Old, New}
use Rattle.keeper_core.specs.declared.faults.KeepFault.{KeepFault}
use Rattle.keeper_core.specs.declared.faults.KeepFault.TheVariants.{NoMemory, Refused, Device, Closed, Store}
use Rattle.keeper_core.specs.Keeping.{IsAfter, IsRefusedFor}
use Rattle.keeper_core.specs.Memory.{one_more}
use Rattle.site_store.specs.declared.kept.Kept.{Kept}
use Rattle.site_store.specs.Standing.{alone, StandsIn}
use Rattle.site_store.specs.StepWritten.{Keeps}
pub use Rattle.site_store.specs.StepWritten.{LeavesAny, AreStatements}

-- the record, while it is open
abbrev pub shown_in : Kept → Option Record
shown_in k = if k.is_open then Some k.standing.state else None

-- the records in which it may be opened while it is closed
abbrev pub MayIn : Kept → Record → Type 0
MayIn k r = StandsIn k.standing r

-- a step failed whose rows may be written
abbrev pub HasFailed : Kept → Type 0
HasFailed k = (input : SiteInput) × (k.standing.pending ≡ Some input)

-- the device has failed once more, where that is the answer
abbrev pub failures_after : KeepFault → ℕ → ℕ
failures_after Device failures = one_more failures
failures_after other failures = failures

-- closed by a failure, with the record before the step and its input
abbrev pub closed_at : Kept → SiteInput → KeepFault → Kept
closed_at old input fault = record old { standing = record old.standing { pending = Some input }; is_open = false; failures = failures_after fault old.failures }

abbrev pub ClosesAt : Kept → SiteInput → KeepFault → Kept → Type 0
ClosesAt old input fault new = ((next : Record) × IsAfter old.standing.state input next) × (new ≡ closed_at old input fault)

-- a step of an open one
abbrev pub StepsKept : Kept → SiteInput → Result Effects KeepFault → Kept → Type 0
StepsKept old input (Ok effects) new =
    Does old.standing.state input effects new.standing.state × AreStatements (changes effects) old.standing.state effects new.standing.state new.statements
    × (new ≡ record old { standing = new.standing; statements = new.statements })
StepsKept old input (Err (Refused why)) new = IsRefusedFor old.standing.state input why × (new ≡ old)
StepsKept old input (Err NoMemory) new = CopiesRecord old.standing.state input × (new ≡ old)
StepsKept old input (Err Device) new = ClosesAt old input Device new
StepsKept old input (Err Store) new = ClosesAt old input Store new
StepsKept old input (Err Closed) new = ⊥

-- any step
abbrev pub AppliesKept : Bool → Kept → SiteInput → Result Effects KeepFault → Kept → Type 0
AppliesKept true old input answer new = StepsKept old input answer new
AppliesKept false old input answer new = (answer ≡ Err Closed) × (new ≡ old)

-- what changes nothing needs no call of the database
abbrev pub is_idle : Result Effects KeepFault → Bool
is_idle (Ok effects) = if changes effects then false else true
is_idle (Err (Refused why)) = true
is_idle (Err Closed) = true
is_idle (Err other) = false

-- what the database keeps once a step was answered
abbrev pub KeepsAfter : Kept → Result Effects KeepFault → State → Type 0
KeepsAfter new (Ok effects) s = Keeps new.standing.state s
KeepsAfter new (Err (Refused why)) s = Keeps new.standing.state s
KeepsAfter new (Err NoMemory) s = Keeps new.standing.state s
KeepsAfter new (Err Device) s = LeavesAny (MayIn new) s
KeepsAfter new (Err Store) s = LeavesAny (MayIn new) s
KeepsAfter new (Err Closed) s = ⊤

-- closed by a stop, in its record
abbrev pub stopped_at : Kept → Kept
stopped_at k = record k { standing = alone k.standing.state; is_open = false }

-- a stop after a step that was answered so, and whether there was memory
abbrev pub StopsAfter : Result Effects KeepFault → Kept → Bool → Kept → Type 0
StopsAfter (Err NoMemory) mid done new = (done ≡ false) × (new ≡ mid)
StopsAfter (Err Device) mid done new = (done ≡ true) × (new ≡ mid)
StopsAfter (Err Store) mid done new = (done ≡ true) × (new ≡ mid)
StopsAfter answer mid done new = (done ≡ true) × (new ≡ stopped_at mid)

-- a stop that keeps the new record is one after a step whose answer nobody hears
abbrev pub StopsInStep : Kept → SiteInput → Bool → Kept → Type 0
StopsInStep old input done new = (answer : Result Effects KeepFault) × (mid : Kept) × StepsKept old input answer mid × StopsAfter answer mid done new

-- any stop
abbrev pub StopsKept : Bool → Kept → SiteInput → Keep → Bool → Kept → Type 0
StopsKept false old input keep done new = (done ≡ true) × (new ≡ old)
StopsKept true old input Old done new = (done ≡ true) × (new ≡ stopped_at old)
StopsKept true old input New done new = StopsInStep old input done new

-- what the database keeps once a stop was answered
abbrev pub KeepsStopped : Kept → Bool → State → Type 0
KeepsStopped new true s = LeavesAny (MayIn new) s
KeepsStopped new false s = Keeps new.standing.state s
