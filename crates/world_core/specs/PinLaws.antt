-- What pins the words that a run's contract speaks in, and that what a run leaves is a world again.
use Rattle.std.specs.Prelude.{◌≡◌, ◌↔◌, ◌⊎◌, ℕ, List, Bool, true, IsTrue, Some, slice_get}
use Rattle.frame_core.specs.Numbers.{Recall}
use Rattle.site_core.specs.Records.{Record}
use Rattle.site_core.specs.Steps.{Does}
use Rattle.site_core.specs.declared.inputs.SiteInput.{SiteInput}
use Rattle.site_core.specs.declared.outcomes.Effects.{Effects}
use Rattle.site_core.specs.declared.outcomes.Effects.TheVariants.{Started, Ended}
use Rattle.site_core.specs.declared.outcomes.Refusal.{Refusal}
use Rattle.keeper_core.specs.Keeping.{IsAfter}
use Rattle.keeper_core.specs.declared.faults.KeepFault.TheVariants.{Refused, Device, Store}
use Rattle.world_core.specs.Faults.{AreOneWorld, MakeAWorld}
use Rattle.world_core.specs.KeptSteps.{LeadsOn, StandsAfter, handed}
use Rattle.world_core.specs.Recalls.{HasEnded, ended_in}
use Rattle.world_core.specs.Turns.{Runs}
use Rattle.world_core.specs.Worlds.{WorldState, WorldFits, records}
use Rattle.world_core.specs.declared.events.Answer.{Answer}
use Rattle.world_core.specs.declared.events.Answer.TheVariants.{Done, Fault, NoMemory, Stopped}
use Rattle.world_core.specs.declared.events.WorldEvent.{WorldEvent}

-- The end that is told is the end that the headline speaks of.
abbrev pub EndsAreTold : Type 0
EndsAreTold =
    (rs : List Record) (recall : Recall) (initiator : Record) → slice_get rs recall.site ≡ Some initiator
    → (ended_in recall initiator ≡ Some true) ↔ ((root : List ℕ) × HasEnded recall root rs)

-- A step that is answered by the end of a recall leaves it ended.
abbrev pub AnsweredEndsStand : Type 0
AnsweredEndsStand = (old new : Record) (input : SiteInput) (recall : Recall) → Does old input (Ended recall) new → ended_in recall new ≡ Some true

-- A start leaves its recall ended exactly where its answer says so.
abbrev pub StartsTellTheEnd : Type 0
StartsTellTheEnd =
    (old new : Record) (input : SiteInput) (recall : Recall) (quarantined numbered : ℕ) (ended : Bool)
    → Does old input (Started recall quarantined numbered ended) new → ended_in recall new ≡ Some ended

-- the answer is that the recall has ended
abbrev pub TellsEnd : Effects → Recall → Type 0
TellsEnd (Ended told) recall = told ≡ recall
TellsEnd (Started told quarantined numbered ended) recall = (told ≡ recall) × IsTrue ended
TellsEnd other recall = ⊥

-- No other step ends a recall of the site's own.
abbrev pub NothingElseEnds : Type 0
NothingElseEnds =
    (old new : Record) (input : SiteInput) (told : Effects) (recall : Recall)
    → recall.site ≡ old.engagement.me → Does old input told new → ended_in recall new ≡ Some true
    → (ended_in recall old ≡ Some true) ⊎ TellsEnd told recall

-- Whatever a run leaves, in whatever records its sites are opened, makes a world again once no frame is in flight.
abbrev pub RunsMakeAWorldAgain : Type 0
RunsMakeAWorldAgain =
    (old new : WorldState) (events : List WorldEvent) (answers : List Answer)
    → WorldFits old → AreOneWorld (records old) → Runs old events answers new → MakeAWorld (records new)

-- A step that was answered with effects stands whole: the record after it is the one that the step leaves, and not the one before.
abbrev pub AnsweredStepsAreWhole : Type 0
AnsweredStepsAreWhole =
    (old new : Record) (input : SiteInput) (effects : Effects)
    → StandsAfter LeadsOn old (handed (Done effects) (Some input)) new ↔ Does old input effects new

-- One in which the site stopped, or its device or its store failed, stands whole or not at all.
abbrev pub IsWholeOrAbsent : Answer → Type 0
IsWholeOrAbsent answer =
    (old new : Record) (input : SiteInput) → StandsAfter LeadsOn old (handed answer (Some input)) new ↔ ((new ≡ old) ⊎ IsAfter old input new)

-- A step that is refused, or finds no memory, doesn't stand.
abbrev pub IsAbsent : Answer → Type 0
IsAbsent answer = (old new : Record) (input : SiteInput) → StandsAfter LeadsOn old (handed answer (Some input)) new ↔ (new ≡ old)

abbrev pub OthersAreAbsent : Type 0
OthersAreAbsent = ((why : Refusal) → IsAbsent (Fault (Refused why))) × IsAbsent NoMemory

abbrev pub BrokenStepsAreEither : Type 0
BrokenStepsAreEither = IsWholeOrAbsent Stopped × IsWholeOrAbsent (Fault Device) × IsWholeOrAbsent (Fault Store)
