-- What a step in place makes of a record, and of the tables.
use Rattle.std.specs.Prelude.{◌≡◌, ⊤, ℕ, Bool, true, false, Some, Result, Ok, Err, if◌then◌else◌}
use Rattle.sqlite.specs.State.{State}
use Rattle.site_core.specs.Records.{Record}
use Rattle.site_core.specs.Steps.{Does, Refuses, changes}
use Rattle.site_core.specs.declared.inputs.SiteInput.{SiteInput}
use Rattle.site_core.specs.declared.outcomes.Effects.{Effects}
use Rattle.site_tables.specs.Causes.{HasReason}
use Rattle.keeper_core.specs.Keeping.{IsAfter}
use Rattle.site_store.specs.declared.standing.Untaken.{Untaken}
use Rattle.site_store.specs.declared.standing.Untaken.TheVariants.{Refused, NoMemory, Failed}
use Rattle.site_store.specs.Standing.{Standing, StandsIn}
use Rattle.site_store.specs.StepWritten.{Keeps, LeavesAny, AreStatements}

abbrev pub Tried : Type 0
Tried = Result (Effects × ℕ) Untaken

-- the step is done and its rows are written; or nothing is changed, but that after a failure it is pending
abbrev pub StepsTo : Standing → SiteInput → Tried → Standing → Type 0
StepsTo old input (Ok made) new = Does old.state input made.0 new.state × AreStatements (changes made.0) old.state made.0 new.state made.1
StepsTo old input (Err (Refused why)) new = Refuses old.state input why × (new ≡ old)
StepsTo old input (Err NoMemory) new = new ≡ old
StepsTo old input (Err (Failed error)) new = ((next : Record) × IsAfter old.state input next) × (new ≡ record old { pending = Some input })

-- what the tables hold then
abbrev pub LeavesTried : Standing → Tried → State → Type 0
LeavesTried new (Err (Failed error)) s = LeavesAny (StandsIn new) s
LeavesTried new other s = Keeps new.state s

-- why it failed: for a reason of the database
abbrev pub FailsTried : State → State → Untaken → Type 0
FailsTried old new (Failed error) = HasReason old new error
FailsTried old new other = ⊤

-- the database isn't called
abbrev pub is_idle_try : Tried → Bool
is_idle_try (Ok made) = if changes made.0 then false else true
is_idle_try (Err (Refused why)) = true
is_idle_try (Err other) = false
