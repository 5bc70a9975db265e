-- What several inputs of one site come to: its file is opened once, and each input is a step of its own, of which is told as soon
-- as it is kept.
use Rattle.std.specs.Prelude.{◌≡◌, ◌⊎◌, ℕ, List, [], ◌∷◌, ◌++◌, Contains, MatchResult, Option, Some, None, Result}
use Rattle.event_json.specs.Sites.{Site, named}
use Rattle.recall_outcomes.specs.Batches.{none_yet, with_one}
use Rattle.recall_outcomes.specs.declared.batches.InputOutcome.{InputOutcome}
use Rattle.recall_outcomes.specs.declared.batches.Task.{Task}
use Rattle.recall_outcomes.specs.declared.faults.Fault.{Fault}
use Rattle.recall_outcomes.specs.declared.faults.Fault.TheVariants.{NoMemory, Write}
use Rattle.site_core.specs.Records.{Record}
use Rattle.site_folders.specs.Faults.{EndsInVain}
use Rattle.site_folders.specs.FileCalls.{FileCall, ClosedSite, Failed, Led}
use Rattle.site_folders.specs.Keepers.{KeepsSite, opens_site}
use Rattle.site_folders.specs.Lists.{AfterList}
use Rattle.site_folders.specs.Refusals.{IsNoSite}
use Rattle.folder_commands.specs.Inputs.{AreNoted, ComesTo, FailsInput, Input}
use Rattle.folder_commands.specs.Untraced.{none_untraced}
use Rattle.folder_commands.specs.Words.{BeginsFrom, InputsFrom, ReadsFrom, task_from}
use Rattle.folder_commands.specs.declared.batches.BatchCame.{BatchCame}
use Rattle.folder_commands.specs.declared.batches.BatchCame.TheVariants as batches
use Rattle.folder_commands.specs.declared.batches.BatchOutput.{BatchOutput}
use Rattle.folder_commands.specs.declared.batches.BatchRun.{BatchRun}
use Rattle.folder_commands.specs.declared.batches.Counts.{Counts}
use Rattle.folder_commands.specs.declared.inputs.InputNotes.{InputNotes}

-- how a batch stands between two inputs: the record that the site shows, who is told, and what the inputs came to so far
pub record Standing (S : Type 0) : Type 0 where
  pub site : Record
  pub sink : S
  pub counts : Counts

abbrev pub standing : {S : Type 0} → Record → S → Counts → Standing S
standing site sink counts = record { site = site; sink = sink; counts = counts }

-- nothing is noted
abbrev pub no_notes : InputNotes
no_notes = record { untraced = none_untraced; places = []; inside = 0 }

-- before the first input
abbrev pub no_counts : Task → Counts
no_counts task = record { totals = none_yet task; noted = no_notes }

module _ {S : Type 0} (takes : S → List Site → List ℕ → InputOutcome → S → Type 0) (sites : List Site) where
  -- an input was taken or refused, and was told of; it counts, and what there is to note of it was added to what was noted before
  pub record TakesOne (old : Standing S) (input : Input) (new : Standing S) : Type 0 where
    pub came : InputOutcome
    pub comes : ComesTo input.doing old.site input.bytes came new.site
    pub told : takes old.sink sites input.source came new.sink
    pub counted : new.counts.totals ≡ with_one old.counts.totals came
    pub noted : AreNoted input.doing old.site input.bytes came old.counts.noted new.counts.noted

  -- the inputs were taken one after another, each from where the one before it led
  abbrev pub Takes : Standing S → List Input → Standing S → Type 0
  Takes old [] new = new ≡ old
  Takes old (input ∷ inputs) new = (mid : Standing S) × TakesOne old input mid × Takes mid inputs new

  -- ---- up to a fault

  module _ {K : Type 0} (shown : K → Option Record) (may : K → Record → Type 0) where
    -- an input was taken and kept, and telling of it failed
    pub record TellsInVain (last : Standing S) (input : Input) (kept : K) (fault : Fault) : Type 0 where
      pub came : InputOutcome
      pub new : Record
      pub comes : ComesTo input.doing last.site input.bytes came new
      pub shows : shown kept ≡ Some new
      pub cause : (fault ≡ Write) ⊎ (fault ≡ NoMemory)

    -- the fault came of this input: of its step, or of telling of it
    abbrev pub BreaksInput : Standing S → Input → K → S → Fault → Type 0
    BreaksInput last input kept sink fault =
        (FailsInput input.doing last.site input.bytes (shown kept) (may kept) fault × (sink ≡ last.sink)) ⊎ TellsInVain last input kept fault

    -- of these inputs the first ones were taken, and the fault came of the next one
    pub record BreaksEach (inputs : List Input) (old : Standing S) (kept : K) (sink : S) (fault : Fault) : Type 0 where
      pub first : List Input
      pub input : Input
      pub more : List Input
      pub parts : inputs ≡ first ++ input ∷ more
      pub last : Standing S
      pub taken : Takes old first last
      pub broke : BreaksInput last input kept sink fault

    -- the fault came before the next input, of a file or of memory, and the site stands as the last one left it; or of that input
    abbrev pub BreaksBehind : Standing S → List Input → K → S → Fault → List (FileCall K) → Type 0
    BreaksBehind last rest kept sink fault calls =
        ((shown kept ≡ Some last.site) × (sink ≡ last.sink) × (((path : List ℕ) × Contains calls (Failed path fault)) ⊎ (fault ≡ NoMemory)))
        ⊎ ((input : Input) × (more : List Input) × (rest ≡ input ∷ more) × BreaksInput last input kept sink fault)

    -- of the inputs that were read the first ones were taken, and behind these came the fault
    pub record BreaksOff (Begins : List Input → List (FileCall K) → Type 0) (old : Standing S) (kept : K) (sink : S) (fault : Fault) (calls : List (FileCall K)) : Type 0 where
      pub first : List Input
      pub rest : List Input
      pub begun : Begins (first ++ rest) calls
      pub last : Standing S
      pub taken : Takes old first last
      pub broke : BreaksBehind last rest kept sink fault calls

-- the inputs that were read were taken
pub record TakesThose {S K : Type 0} (takes : S → List Site → List ℕ → InputOutcome → S → Type 0) (sites : List Site) (Reads : List Input → List (FileCall K) → Type 0) (old new : Standing S) (calls : List (FileCall K)) : Type 0 where
  pub inputs : List Input
  pub read : Reads inputs calls
  pub taken : Takes takes sites old inputs new

-- ---- in parts

-- a batch stands so
pub record Stands {S K : Type 0} (shown : K → Option Record) (sites : List Site) (run : BatchRun K) (sink : S) (at : Standing S) : Type 0 where
  pub shows : shown run.keeper ≡ Some at.site
  pub hears : at.sink ≡ sink
  pub counts : at.counts ≡ run.counts
  pub lists : run.sites ≡ sites

module _ {S K : Type 0} (shown : K → Option Record) (may : K → Record → Type 0) (stored : K → Type 0) (takes : S → List Site → List ℕ → InputOutcome → S → Type 0) where
  -- these inputs were taken, or a fault came of one of them; a crash leaves what the site shows, or may be opened in
  pub record TakesEach (inputs : List Input) (was run : BatchRun K) (heard hears : S) (result : Result Unit Fault) : Type 0 where
    pub lasts : stored was.keeper → stored run.keeper
    pub came : (start : Standing S) → Stands shown was.sites was heard start
        → MatchResult result (λ u. (end : Standing S) × Stands shown was.sites run hears end × Takes takes was.sites start inputs end)
        (BreaksEach takes was.sites shown may inputs start run.keeper hears)

  -- the same of inputs that were read of the files
  pub record TakesRead {F : Type 0} (does : F → FileCall K → F → Type 0) (Reads Begins : List Input → List (FileCall K) → Type 0) (old new : F) (was run : BatchRun K) (heard hears : S) (result : Result Unit Fault) : Type 0 where
    pub lasts : stored was.keeper → stored run.keeper
    pub came : (start : Standing S) → Stands shown was.sites was heard start
        → MatchResult result
        (λ u. (end : Standing S) × Stands shown was.sites run hears end × Led does old new (TakesThose takes was.sites Reads start end))
        (λ fault. Led does old new (BreaksOff takes was.sites shown may Begins start run.keeper hears fault))

-- ---- the whole

module _ {S K : Type 0} (shown : K → Option Record) (stored : K → Type 0) (takes : S → List Site → List ℕ → InputOutcome → S → Type 0) (folder name : List ℕ) (from : InputsFrom) where
  -- The site's file was opened once. The inputs were read and taken in order, and the file was closed in the record to
  -- which the inputs lead, which a crash leaves there. What is noted is that of the documents that were captured, and of the items of
  -- which recalls were started.
  pub record TakesAt (site : ℕ) (sites : List Site) (heard hears : S) (came : BatchCame) (calls : List (FileCall K)) : Type 0 where
    pub keeper : K
    pub record_before : Record
    pub opened : KeepsSite shown stored sites site keeper record_before
    pub reads : List (FileCall K)
    pub last : Standing S
    pub taken : TakesThose takes sites (ReadsFrom from) (standing record_before heard (no_counts (task_from from))) last reads
    pub told : hears ≡ last.sink
    pub came_is : came ≡ batches.Taken last.counts.totals last.counts.noted
    pub kept : K
    pub shows : shown kept ≡ Some last.site
    pub lasts : stored kept
    pub calls_are : calls ≡ opens_site folder sites site keeper ∷ reads ++ ClosedSite kept ∷ []

  -- a site that isn't listed is refused, and no file of inputs is read
  abbrev pub RefusesSite : BatchCame → Type 0
  RefusesSite (batches.NoSite outcome) = IsNoSite name outcome
  RefusesSite other = ⊥

  abbrev pub TakesWhere : Option ℕ → List Site → S → S → BatchCame → List (FileCall K) → Type 0
  TakesWhere None sites heard hears came calls = RefusesSite came × (hears ≡ heard) × (calls ≡ [])
  TakesWhere (Some site) sites heard hears came calls = TakesAt site sites heard hears came calls

  -- the inputs were taken at the site of a name
  abbrev pub TakesAll : S → S → BatchOutput → List (FileCall K) → Type 0
  TakesAll heard hears output calls =
      AfterList folder (λ sites rest. (output.sites ≡ sites) × TakesWhere (named sites name) sites heard hears output.came rest) calls

  -- ---- where a fault ends it

  module _ (may : K → Record → Type 0) where
    -- The site's file was opened. The first inputs were read and taken in order, and each was told of; then came the
    -- fault, of which is said what it came of. The file was closed, which shows, or may be opened in, the record to which those inputs
    -- lead, or the one after one input more; and a crash leaves that.
    pub record BreaksBatch (heard hears : S) (fault : Fault) (sites : List Site) (calls : List (FileCall K)) : Type 0 where
      pub site : ℕ
      pub known : named sites name ≡ Some site
      pub keeper : K
      pub record_before : Record
      pub opened : KeepsSite shown stored sites site keeper record_before
      pub reads : List (FileCall K)
      pub kept : K
      pub broke :
          BreaksOff takes sites shown may (BeginsFrom from) (standing record_before heard (no_counts (task_from from))) kept hears fault reads
      pub lasts : stored kept
      pub calls_are : calls ≡ opens_site folder sites site keeper ∷ reads ++ ClosedSite kept ∷ []

    -- a batch has no outcome: nothing was changed or told, or it broke off
    abbrev pub BatchFails : S → S → Fault → List (FileCall K) → Type 0
    BatchFails heard hears fault calls =
        (EndsInVain shown folder fault calls × (hears ≡ heard)) ⊎ AfterList folder (BreaksBatch heard hears fault) calls
