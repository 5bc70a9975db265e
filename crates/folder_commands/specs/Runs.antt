-- What a run of all sites comes to.
use Rattle.std.specs.Prelude.{◌≡◌, ◌≢◌, ◌⊎◌, ◌++◌, ◌+◌, ℕ, Bool, true, false, List, [], ◌∷◌, All, length, map, Option, Some, None, Result}
use Rattle.std.specs.FinMap as tables
use Rattle.std.specs.List.{AllZip, flat_map}
use Rattle.event_json.specs.Sites.{Site}
use Rattle.keeper_core.specs.declared.faults.Unopened.{Unopened}
use Rattle.recall_outcomes.specs.declared.faults.Fault.{Fault}
use Rattle.recall_outcomes.specs.declared.faults.Fault.TheVariants as faults
use Rattle.recall_outcomes.specs.declared.outcomes.Outcome.{Outcome}
use Rattle.recall_outcomes.specs.declared.outcomes.Outcome.TheVariants.{Inconsistent}
use Rattle.recall_outcomes.specs.declared.outcomes.Outcome.TheVariants as outcomes
use Rattle.recall_outcomes.specs.declared.outcomes.Output.{Output}
use Rattle.recall_outcomes.specs.declared.outcomes.StartedRecall.{StartedRecall}
use Rattle.site_core.specs.Records.{Record}
use Rattle.site_recovery.specs.Looks.{world_of}
use Rattle.site_recovery.specs.Misfits.{IsMisfit}
use Rattle.site_recovery.specs.declared.checking.Misfit.{Misfit}
use Rattle.site_threads.specs.Gathering.{Began, Explains, FitAfter, HasTurned, HindersRun, IsKept, RanAsAWorld, StandTogether}
use Rattle.site_threads.specs.Jobs.{AreOfFrames}
use Rattle.site_threads.specs.declared.gather.GatherCause.{GatherCause}
use Rattle.site_threads.specs.declared.gather.GatherCause.TheVariants.{NotAWorld}
use Rattle.site_threads.specs.declared.gather.GatherCause.TheVariants as gathering
use Rattle.site_threads.specs.declared.lists.RunLog.{RunLog}
use Rattle.world_core.specs.declared.faults.WorldFault.{WorldFault}
use Rattle.world_core.specs.declared.faults.WorldFault.TheVariants as worlds
use Rattle.site_folders.specs.Begun.{begun}
use Rattle.site_folders.specs.Faults.{EndsInVain}
use Rattle.site_folders.specs.FileCalls.{FileCall}
use Rattle.site_folders.specs.Keepers.{AreShown, KeepFrom, closes_all, opens_from}
use Rattle.site_folders.specs.Lists.{AfterList}
use Rattle.trace_core.specs.declared.pairs.Pair.{Pair}
use Rattle.folder_commands.specs.Missing.{AreMissed}
use Rattle.folder_commands.specs.Notes.{EndsSo, NotesEnd}
use Rattle.folder_commands.specs.declared.notes.RunEnd.{RunEnd}
use Rattle.folder_commands.specs.declared.runs.RunTerms.{RunTerms}

-- the keepers show records that stand together, and these are the recalls that sites have begun in them, in order
pub record TellsRecalls {K : Type 0} (shown : K → Option Record) (keepers : List K) (recalls : List StartedRecall) : Type 0 where
  pub records : List Record
  pub shows : AreShown shown keepers records
  pub together : StandTogether records
  pub all : recalls ≡ begun records

-- the records that the keepers show aren't consistent, with this misfit
pub record TellsTheMisfit {K : Type 0} (shown : K → Option Record) (keepers : List K) (misfit : Misfit) : Type 0 where
  pub records : List Record
  pub shows : AreShown shown keepers records
  pub is_misfit : IsMisfit (length records) (world_of records) misfit.condition misfit.site

module _ {K : Type 0} (shown : K → Option Record) (failed : K → ℕ) (may : K → Record → Type 0) (terms : RunTerms) where
  -- each keeper is open in the record to which its steps lead from the one that it began with, and these are the recalls in
  -- them; each step is that of a frame, and each site's gate was asked for just these turns, or for fewer where the site is
  -- done. What the sites did is a run of the world, which comes out as the headline says. The notes are those of these
  -- steps, of how often the devices had failed before and have after, and of these recalls
  pub record CameToItsEnd (old new : List K) (recalls : List StartedRecall) (end : RunEnd) : Type 0 where
    pub lists : List RunLog
    pub began : AllZip (Began shown) old lists
    pub kept : AllZip (IsKept shown) new lists
    pub frames : All (λ l. AreOfFrames l.entries.items) lists
    pub turned : AllZip (HasTurned shown terms.turns) new lists
    pub run : RanAsAWorld shown may old new lists
    pub told : TellsRecalls shown new recalls
    pub noted : EndsSo (map failed old) (map failed new) lists recalls end

  -- the run came to its end; or there was none, since the records aren't consistent, and the keepers are as they were
  abbrev pub AnswersRun : List K → List K → Outcome → Option RunEnd → Type 0
  AnswersRun old new (outcomes.Ran recalls coded) (Some end) = (coded ≡ terms.coded) × CameToItsEnd old new recalls.items end
  AnswersRun old new (Inconsistent misfit) end = TellsTheMisfit shown old misfit × (new ≡ old) × (end ≡ None)
  AnswersRun old new other end = ⊥

-- of the causes that prevent a run, the misfit alone is an outcome
abbrev pub TellsWorldFault : WorldFault → Outcome → Type 0
TellsWorldFault (worlds.Misfit misfit) outcome = outcome ≡ Inconsistent misfit
TellsWorldFault fault outcome = ⊥

abbrev pub TellsCause : GatherCause → Outcome → Type 0
TellsCause (NotAWorld fault) outcome = TellsWorldFault fault outcome
TellsCause cause outcome = ⊥

-- the faults of the causes; a misfit is none
abbrev pub world_fault : WorldFault → Option Fault
world_fault worlds.NoMemory = Some faults.NoMemory
world_fault (worlds.OtherSites place) = Some faults.OtherSites
world_fault (worlds.Misfit misfit) = None
world_fault (worlds.Closed place) = Some faults.Closed

abbrev pub gather_fault : GatherCause → Option Fault
gather_fault (gathering.NotAWorld fault) = world_fault fault
gather_fault gathering.NoMemory = Some faults.NoMemory
gather_fault (gathering.SiteLost site) = Some faults.SiteLost
gather_fault (gathering.GaveUp site) = Some faults.GaveUp

-- The run has no outcome: the fault is that of a cause which prevents it, and a gate that is named gave up, a keeper that
-- is named was refused. The keepers are as they were where they make no world, and else the sites stand together in
-- whichever records they are open, or may be opened. What they did, if anything, is a run of the world.
pub record FailsRun {K G : Type 0} (shown : K → Option Record) (may : K → Record → Type 0) (reopens : K → Result K (Unopened K) → Type 0) (gives_up : G → ℕ → ℕ → Type 0) (turns : ℕ) (old new : List K) (fault : Fault) : Type 0 where
  pub cause : GatherCause
  pub hinders : HindersRun shown new cause
  pub fit : FitAfter shown may old cause new
  pub explained : Explains shown reopens gives_up turns new cause
  pub fault_is : gather_fault cause ≡ Some fault
  pub ran : (new ≡ old) ⊎ ((lists : List RunLog) × RanAsAWorld shown may old new lists)

-- ---- a run that goes on, in rounds of so many turns, until its recalls have ended or nothing moves any more

-- how many messages of others a site has dealt with, and how many of its own wait for a signal. A step of a frame that changes
-- the site's record changes one of the two
abbrev pub traffic_of : Record → List ℕ
traffic_of r = length (tables.entries r.engagement.seen) ∷ length (tables.entries r.engagement.outbox) ∷ []

-- there was a run, and a recall is open after it
abbrev pub leaves_open : Option RunEnd → Bool
leaves_open None = false
leaves_open (Some end) = end.unended

module _ {K : Type 0} (shown : K → Option Record) where
  -- in the records that the keepers show it is so
  abbrev pub HaveTraffic : List K → List ℕ → Type 0
  HaveTraffic keepers traffic = (records : List Record) → AreShown shown keepers records → traffic ≡ flat_map traffic_of records

  -- no site has dealt with a message since, and no message was signalled
  abbrev pub AreStill : List K → List K → Type 0
  AreStill old new = (before after : List Record) → AreShown shown old before → AreShown shown new after → flat_map traffic_of before ≡ flat_map traffic_of after

  -- whether another run follows: a recall is open, and what the sites have dealt with isn't what it was before
  abbrev pub TellsWhether : List ℕ → List K → Option RunEnd → Bool → Type 0
  TellsWhether before new end true = (leaves_open end ≡ true) × (traffic : List ℕ) × HaveTraffic new traffic × (traffic ≢ before)
  TellsWhether before new end false = (leaves_open end ≡ false) ⊎ HaveTraffic new before

  -- no recall is open after the run, or nothing moved in it
  abbrev pub HasRested : List K → List K → Option RunEnd → Type 0
  HasRested old new end = (leaves_open end ≡ false) ⊎ AreStill old new

module _ {K : Type 0} (shown : K → Option Record) (failed : K → ℕ) (may : K → Record → Type 0) (terms : RunTerms) where
  -- a run that came to its end with a recall open, and in which something moved: another one follows
  pub record GoesOn (old new : List K) : Type 0 where
    pub recalls : List StartedRecall
    pub end : RunEnd
    pub came : CameToItsEnd shown failed may terms old new recalls end
    pub unended : end.unended ≡ true
    pub moved : AreStill shown old new → ⊥

  -- such runs one after another, which leave the keepers so in between, lead from these keepers to those
  abbrev pub GoOn : List (List K) → List K → List K → Type 0
  GoOn [] old new = new ≡ old
  GoOn (mid ∷ between) old new = GoesOn old mid × GoOn between mid new

  -- no other one follows, since there were as many as there are at most, or for one of these two reasons
  abbrev pub IsOver : ℕ → List K → List K → Option RunEnd → Type 0
  IsOver rounds old new end = HasRested shown old new end ⊎ (rounds ≡ 500)

  -- after such runs, none where it isn't asked for, the last one has this outcome
  pub record AnswersRounds (old new : List K) (outcome : Outcome) (end : Option RunEnd) : Type 0 where
    pub between : List (List K)
    pub asked : terms.until_ended ≡ false → between ≡ []
    pub last : List K
    pub led : GoOn between old last
    pub answers : AnswersRun shown failed may terms last new outcome end
    pub over : terms.until_ended ≡ true → IsOver (length between + 1) last new end

  -- where open recalls miss items and the terms say so, there was no run, and the keepers are as they were
  abbrev pub Withholds : List Pair → List K → List K → Outcome → Option RunEnd → Type 0
  Withholds missed old new outcome end = (terms.unless_gaps ≡ true) × (missed ≢ []) × (outcome ≡ outcomes.Withheld) × (new ≡ old) × (end ≡ None)

  -- else there was, or could be
  abbrev pub AnswersUnless : List Pair → List K → List K → Outcome → Option RunEnd → Type 0
  AnswersUnless missed old new outcome end =
      Withholds missed old new outcome end ⊎ ((terms.unless_gaps ≡ true → missed ≡ []) × AnswersRounds old new outcome end)

-- after runs that go on, none where it isn't asked for, the last one has no outcome
pub record FailsRounds {K G : Type 0} (shown : K → Option Record) (failed : K → ℕ) (may : K → Record → Type 0) (reopens : K → Result K (Unopened K) → Type 0) (gives_up : G → ℕ → ℕ → Type 0) (terms : RunTerms) (old new : List K) (fault : Fault) : Type 0 where
  pub between : List (List K)
  pub asked : terms.until_ended ≡ false → between ≡ []
  pub last : List K
  pub led : GoOn shown failed may terms between old last
  pub fails : FailsRun shown may reopens gives_up terms.turns last new fault

-- ---- of a folder

module _ {K : Type 0} (knows : List ℕ → List ℕ → Type 0) (shown : K → Option Record) (failed : K → ℕ) (may : K → Record → Type 0) (stored : K → Type 0) (folder : List ℕ) where
  -- the files of all sites were opened, the sites ran on these terms, and the files were closed, on each of which a crash
  -- leaves the record that its keeper shows; then the notes were told, with what open recalls missed before the run, and
  -- what the files know of those of the sites that stopped
  pub record RunsAll (sites : List Site) (terms : RunTerms) (output : Output) (calls : List (FileCall K)) : Type 0 where
    pub keepers : List K
    pub records : List Record
    pub opened : KeepFrom shown stored sites 0 keepers records
    pub number : length keepers ≡ length sites
    pub after : List K
    pub end : Option RunEnd
    pub missed : List Pair
    pub missed_are : AreMissed records missed
    pub told : AnswersUnless shown failed may terms missed keepers after output.outcome end
    pub lasts : All stored after
    pub noted : NotesEnd knows folder sites missed end output.notes
    pub calls_are : calls ≡ opens_from folder sites 0 keepers ++ closes_all after

  -- all sites of a folder ran on these terms
  abbrev pub RunsAt : RunTerms → Output → List (FileCall K) → Type 0
  RunsAt terms output calls = AfterList folder (λ sites rest. (output.sites ≡ sites) × RunsAll sites terms output rest) calls

-- ---- where it has no outcome

module _ {K G : Type 0} (shown : K → Option Record) (failed : K → ℕ) (may : K → Record → Type 0) (reopens : K → Result K (Unopened K) → Type 0) (gives_up : G → ℕ → ℕ → Type 0) (stored : K → Type 0) (folder : List ℕ) (terms : RunTerms) where
  -- the files of all sites were opened, and closed after the run, on each of which a crash leaves what its keeper shows, or may
  -- be opened in: the fault is that of the run; or the run is done, and memory ran out for what is noted of it
  pub record BreaksRun (fault : Fault) (sites : List Site) (calls : List (FileCall K)) : Type 0 where
    pub keepers : List K
    pub records : List Record
    pub opened : KeepFrom shown stored sites 0 keepers records
    pub number : length keepers ≡ length sites
    pub after : List K
    pub came :
        FailsRounds shown failed may reopens gives_up terms keepers after fault
        ⊎ ((fault ≡ faults.NoMemory) × (missed : List Pair) × (outcome : Outcome) × (end : Option RunEnd) × AnswersUnless shown failed may terms missed keepers after outcome end)
    pub lasts : All stored after
    pub calls_are : calls ≡ opens_from folder sites 0 keepers ++ closes_all after

  -- a run has no outcome: nothing was changed, or it broke off
  abbrev pub RunFails : Fault → List (FileCall K) → Type 0
  RunFails fault calls = EndsInVain shown folder fault calls ⊎ AfterList folder (BreaksRun fault) calls
