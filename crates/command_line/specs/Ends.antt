-- How a command line ends: with which status, and what it leaves on the standard output. What it leaves on the error stream, and how texts
-- are worded, is for tests on the program.
use Rattle.std.specs.Prelude.{◌≡◌, ◌≢◌, ◌⊎◌, ◌==◌, ℕ, List, [], ◌∷◌, ◌++◌, Option, Result, Ok, Err, IfErr, IfOk, IfSome, codes, map, option_map, if◌then◌else◌}
use Rattle.std.specs.Global.{Global}
use Rattle.std.specs.declared.string.String.{String}
use Rattle.std.specs.Io.KnownBytes.{Appends, Keeps}
use Rattle.keeper_core.specs.declared.faults.Unopened.{Unopened}
use Rattle.script_core.specs.Runs.{IsDone, Leaves}
use Rattle.script_core.specs.declared.tallies.Tally.{Tally}
use Rattle.recall_text.specs.declared.faults.ScriptFault.{ScriptFault}
use Rattle.site_core.specs.Records.{Record}
use Rattle.world_core.specs.KeptSteps.{StandsAfter}
use Rattle.document_lint.specs.Lines.{json_line as lint_line, lint_json, totals_json as lint_totals, totals_status as lint_status}
use Rattle.document_lint.specs.declared.findings.Lint.{Lint}
use Rattle.event_json.specs.Sites.{Site}
use Rattle.folder_questions.specs.declared.packs.PacksAnswer.{PacksAnswer}
use Rattle.folder_questions.specs.declared.packs.PacksAnswer.TheVariants as packs
use Rattle.folder_questions.specs.declared.plans.Planned.{Planned}
use Rattle.folder_questions.specs.declared.plans.Planned.TheVariants as plans
use Rattle.folder_questions.specs.declared.plans.PlannedBatch.{PlannedBatch}
use Rattle.recall_text.specs.Words.{name_at}
use Rattle.recall_outcomes.specs.Batches.{totals_status}
use Rattle.recall_outcomes.specs.Statuses.{outcome_status}
use Rattle.recall_outcomes.specs.declared.batches.InputOutcome.{InputOutcome}
use Rattle.recall_outcomes.specs.declared.batches.Task.{Task}
use Rattle.recall_outcomes.specs.declared.faults.Fault.{Fault}
use Rattle.recall_outcomes.specs.declared.outcomes.Outcome.{Outcome}
use Rattle.recall_outcomes.specs.declared.outcomes.Output.{Output}
use Rattle.site_folders.specs.FileCalls.{FileCall, Led}
use Rattle.folder_commands.specs.Batches.{BatchFails, TakesAll}
use Rattle.folder_commands.specs.Lints.{LintFails, Lints}
use Rattle.folder_commands.specs.Words.{Words, task_of}
use Rattle.folder_commands.specs.declared.batches.BatchCame.{BatchCame}
use Rattle.folder_commands.specs.declared.batches.BatchCame.TheVariants as batches
use Rattle.folder_commands.specs.declared.batches.BatchOutput.{BatchOutput}
use Rattle.folder_commands.specs.declared.lints.LintCame.{LintCame}
use Rattle.folder_commands.specs.declared.lints.LintCame.TheVariants as lints
use Rattle.folder_commands.specs.declared.lints.LintOutput.{LintOutput}
use Rattle.outcome_forms.specs.Json.{input_json, json_line, totals_json}
use Rattle.outcome_forms.specs.Writing.{Writes, WritesLines}
use Rattle.outcome_forms.specs.declared.forms.Form.{Form}
use Rattle.command_line.specs.CommandLines.{AsksBatch, AsksFiles, AsksHelp, AsksLint, AsksPacks, AsksPlan, AsksSim, IsBad, texts_of, words_of, AsksConvert}
use Rattle.command_line.specs.Converting.{TellsConvert}
use Rattle.command_line.specs.Leads.{FailsBy, LeadsTo}
use Rattle.command_line.specs.declared.asked.Batch.{Batch}
use Rattle.command_line.specs.declared.asked.FileCommand.{FileCommand}
use Rattle.command_line.specs.declared.asked.Terms.{Terms}
use Rattle.command_line.specs.Packs.{Finds, document_lines}
use Rattle.command_line.specs.Plans.{FindsPlan, inputs_of}
use Rattle.command_line.specs.declared.convert_commands.ConvertFiles.{ConvertFiles}
use Rattle.command_line.specs.declared.lint_commands.LintFiles.{LintFiles}
use Rattle.command_line.specs.declared.pack_commands.PackFiles.{PackFiles}
use Rattle.command_line.specs.declared.plan_commands.PlanCommand.{PlanCommand}

-- an input by what it still has, where it reports it, and an output
pub record Streams (W : Type 0) : Type 0 where
  pub input : Option (List ℕ)
  pub output : W

abbrev pub streams : {I W : Type 0} → (I → Option (List ℕ)) → I → W → Streams W
streams remaining input output = record { input = remaining input; output = output }

-- ---- a script

module _ {W : Type 0} (contents : W → Option (List ℕ)) (before after : Streams W) (status : ℕ) where
  -- the script was answered to its end: status 0 where nothing was refused, else 1
  pub record ScriptDone (script : List ℕ) : Type 0 where
    pub tally : Tally
    pub done : IsDone script (contents before.output) (contents after.output) tally
    pub status_is : status ≡ (if tally.refused == 0 then 0 else 1)

  -- a fault ended it: status 3
  pub record ScriptFailed (script : List ℕ) : Type 0 where
    pub fault : ScriptFault
    pub leaves : Leaves fault script after.input (contents before.output) (contents after.output)
    pub status_is : status ≡ 3

  -- a script was run
  abbrev pub RunsScript : Type 0
  RunsScript = IfSome before.input (λ script. ScriptDone script ⊎ ScriptFailed script)

-- ---- a command on the sites' files

-- an outcome was written, and the status is its own; or writing failed, or memory ran out for it: status 3
abbrev pub OutcomeEnds : Form → List Site → Outcome → Option (List ℕ) → Option (List ℕ) → ℕ → Type 0
OutcomeEnds form sites outcome before after status = (Writes form sites outcome before after × (status ≡ outcome_status outcome)) ⊎ (status ≡ 3)

-- what a command on files came to is written; or its fault is reported, with status 3, and nothing is written
abbrev pub CommandEnds : Form → Result Output Fault → Option (List ℕ) → Option (List ℕ) → ℕ → Type 0
CommandEnds form (Ok told) before after status = OutcomeEnds form told.sites told.outcome before after status
CommandEnds form (Err fault) before after status = Keeps before after × (status ≡ 3)

-- ---- several inputs

-- the line of what came of an input, which is written as soon as that is kept
abbrev pub InputLine : {W : Type 0} → (W → Option (List ℕ)) → Form → Task → W → List Site → List ℕ → InputOutcome → W → Type 0
InputLine contents form task before sites source came after =
    WritesLines form (json_line (input_json task sites source came)) (contents before) (contents after)

-- behind the lines of the inputs, that of the totals; or the refusal of the site; or writing failed
abbrev pub BatchEnds : Form → List Site → BatchCame → Option (List ℕ) → Option (List ℕ) → ℕ → Type 0
BatchEnds form sites (batches.NoSite outcome) before after status = OutcomeEnds form sites outcome before after status
BatchEnds form sites (batches.Taken totals noted) before after status =
    (WritesLines form (json_line (totals_json totals)) before after × (status ≡ totals_status totals)) ⊎ (status ≡ 3)

-- ---- documents that are looked through

-- the lines of what is found in a document
abbrev pub LintLine : {W : Type 0} → (W → Option (List ℕ)) → Form → W → List ℕ → Lint → W → Type 0
LintLine contents form before path found after = WritesLines form (lint_json path found) (contents before) (contents after)

abbrev pub LintEnds : Form → List Site → LintCame → Option (List ℕ) → Option (List ℕ) → ℕ → Type 0
LintEnds form sites (lints.Refused outcome) before after status = OutcomeEnds form sites outcome before after status
LintEnds form sites (lints.Looked totals) before after status =
    (WritesLines form (lint_line (lint_totals totals)) before after × (status ≡ lint_status totals)) ⊎ (status ≡ 3)

-- ---- the events by which sites close their packed gaps

-- the documents were written, or writing failed; or the site is refused
abbrev pub PacksEnd : Form → List Site → PacksAnswer → Option (List ℕ) → Option (List ℕ) → ℕ → Type 0
PacksEnd form sites (packs.NoSite outcome) before after status = OutcomeEnds form sites outcome before after status
PacksEnd form sites (packs.Found documents) before after status = (Appends before after (document_lines documents.items) × (status ≡ 0)) ⊎ (status ≡ 3)

-- ---- a plan

-- how far a plan was carried out: the files, the output, and the worst status so far
pub record Progress (F W : Type 0) : Type 0 where
  pub files : F
  pub output : W
  pub status : ℕ

abbrev pub progress : {F W : Type 0} → F → W → ℕ → Progress F W
progress files output status = record { files = files; output = output; status = status }

module _ {F K W : Type 0} (does : F → FileCall K → F → Type 0) (shown : K → Option Record) (may : K → Record → Type 0) (stored : K → Type 0) (contents : W → Option (List ℕ)) (form : Form) (folder : List ℕ) (sites : List Site) where
  -- what came of each input of a part was written as soon as it was kept, up to these lines; or a fault broke that off
  abbrev pub TakesPart : PlannedBatch → F → F → W → W → Result BatchOutput Fault → Type 0
  TakesPart part old new before lines (Ok output) =
      Led does old new (TakesAll shown stored (InputLine contents form part.task) folder (name_at sites part.site) (inputs_of part) before lines output)
  TakesPart part old new before lines (Err fault) =
      Led does old new (BatchFails shown stored (InputLine contents form part.task) folder (name_at sites part.site) (inputs_of part) may before lines fault)

  -- and then what they came to, or the fault was reported
  pub record TellsPart (part : PlannedBatch) (old new : F) (before after : W) (status : ℕ) : Type 0 where
    pub lines : W
    pub came : Result BatchOutput Fault
    pub taken : TakesPart part old new before lines came
    pub ends : IfOk came (λ output. BatchEnds form output.sites output.came (contents lines) (contents after) status)
    pub fails : IfErr came (λ fault. (after ≡ lines) × (status ≡ 3))

  -- a part more, without a fault; where something of it was refused, that counts
  abbrev pub TakesMore : Progress F W → PlannedBatch → Progress F W → Type 0
  TakesMore old part new =
      (status : ℕ) × TellsPart part old.files new.files old.output new.output status × (status ≢ 3) × (new.status ≡ (if status == 0 then old.status else status))

  -- all parts, one after another; or those before one that a fault broke off
  abbrev pub TakesPlan : List PlannedBatch → F → F → W → W → ℕ → Type 0
  TakesPlan plan old new before after status =
      StandsAfter TakesMore (progress old before 0) plan (progress new after status)
      ⊎ ((done : List PlannedBatch) × (part : PlannedBatch) × (more : List PlannedBatch) × (plan ≡ done ++ part ∷ more)
      × (mid : Progress F W) × StandsAfter TakesMore (progress old before 0) done mid × TellsPart part mid.files new mid.output after 3 × (status ≡ 3))

  -- a plan was carried out, or its refusal was written
  abbrev pub PlanEnds : Planned → F → F → W → W → ℕ → Type 0
  PlanEnds (plans.Refused outcome) old new before after status = (new ≡ old) × OutcomeEnds form sites outcome (contents before) (contents after) status
  PlanEnds (plans.Batches plan) old new before after status = TakesPlan plan.items old new before after status

-- ---- without a call of the files

module _ {F W : Type 0} (contents : W → Option (List ℕ)) (old new : F) (before after : Streams W) (status : ℕ) where
  -- a script was asked for, and it was run
  abbrev pub RunsAsked : List (List ℕ) → Type 0
  RunsAsked words = AsksSim words × RunsScript contents before after status × (new ≡ old)

  -- help was asked for, which was the answer, or couldn't be written
  abbrev pub Helps : List (List ℕ) → Type 0
  Helps words = AsksHelp words × (new ≡ old) × Keeps before.input after.input × ((status ≡ 0) ⊎ (status ≡ 3))

  -- the command line is bad: status 2, and nothing is written
  abbrev pub IsMistaken : List (List ℕ) → Type 0
  IsMistaken words = IsBad words × (new ≡ old) × Keeps before.input after.input × Keeps (contents before.output) (contents after.output) × (status ≡ 2)

  -- memory ran out before the command was known: status 3, and nothing is written
  abbrev pub LacksMemory : Type 0
  LacksMemory = (new ≡ old) × Keeps before.input after.input × Keeps (contents before.output) (contents after.output) × (status ≡ 3)

  -- `recall sim` runs the script, or memory ran out before
  abbrev pub SimRuns : List (String Global) → Type 0
  SimRuns words = (name : List ℕ) → texts_of words ≡ name ∷ codes "sim" ∷ [] → RunsScript contents before after status ⊎ LacksMemory

-- ---- the whole

module _ {F K W : Type 0} (does : F → FileCall K → F → Type 0) (shown : K → Option Record) (may : K → Record → Type 0) (stored : K → Type 0) (contents : W → Option (List ℕ)) where
  -- of these words, what came of each was written as soon as it was kept, up to these lines; or a fault broke that off
  abbrev pub TakesBatch : Batch → F → F → W → W → Result BatchOutput Fault → Type 0
  TakesBatch batch old new before lines (Ok output) =
      Led does old new
      (TakesAll shown stored (InputLine contents batch.terms.form (task_of batch.kind)) batch.folder.now batch.site.now (Words batch.kind (words_of batch)) before lines output)
  TakesBatch batch old new before lines (Err fault) =
      Led does old new
      (BatchFails shown stored (InputLine contents batch.terms.form (task_of batch.kind)) batch.folder.now batch.site.now (Words batch.kind (words_of batch)) may before lines fault)

module _ {F K W : Type 0} (does : F → FileCall K → F → Type 0) (waits limits : F → ℕ → F → Type 0) (shown : K → Option Record) (may : K → Record → Type 0) (stored : K → Type 0) (contents : W → Option (List ℕ)) where
  -- and then what they came to, or the fault was reported
  pub record TellsBatch (batch : Batch) (old new : F) (before after : W) (status : ℕ) : Type 0 where
    pub first : F
    pub waited : waits old batch.terms.wait first
    pub mid : F
    pub limited : limits first batch.terms.most mid
    pub lines : W
    pub came : Result BatchOutput Fault
    pub taken : TakesBatch does shown may stored contents batch mid new before lines came
    pub ends : IfOk came (λ output. BatchEnds batch.terms.form output.sites output.came (contents lines) (contents after) status)
    pub fails : IfErr came (λ fault. (after ≡ lines) × (status ≡ 3))

module _ {F K W : Type 0} (does : F → FileCall K → F → Type 0) (contents : W → Option (List ℕ)) where
  -- what was found in each document was written, up to these lines; or a fault broke that off
  abbrev pub LintsFiles : LintFiles → F → F → W → W → Result LintOutput Fault → Type 0
  LintsFiles asked old new before lines (Ok output) =
      Led does old new
      (Lints (LintLine contents asked.form) asked.list.now (option_map (λ t. t.now) asked.site) (map (λ path. path.now) asked.paths.items) before lines output)
  LintsFiles asked old new before lines (Err fault) = Led does old new (LintFails fault)

module _ {F K W : Type 0} (does : F → FileCall K → F → Type 0) (limits : F → ℕ → F → Type 0) (contents : W → Option (List ℕ)) where
  -- and then the totals, or the fault was reported
  pub record TellsLint (asked : LintFiles) (old new : F) (before after : W) (status : ℕ) : Type 0 where
    pub mid : F
    pub limited : limits old asked.most mid
    pub lines : W
    pub came : Result LintOutput Fault
    pub looked : LintsFiles does contents asked mid new before lines came
    pub ends : IfOk came (λ output. LintEnds asked.form output.sites output.came (contents lines) (contents after) status)
    pub fails : IfErr came (λ fault. (after ≡ lines) × (status ≡ 3))

module _ {F K W : Type 0} (does : F → FileCall K → F → Type 0) (waits : F → ℕ → F → Type 0) (shown : K → Option Record) (stored : K → Type 0) (contents : W → Option (List ℕ)) where
  -- and that was written, or the fault was reported
  pub record TellsPacks (asked : PackFiles) (old new : F) (before after : W) (status : ℕ) : Type 0 where
    pub mid : F
    pub waited : waits old asked.terms.wait mid
    pub came : Result (List Site × PacksAnswer) Fault
    pub answered : Finds does shown stored asked mid new came
    pub ends : IfOk came (λ told. PacksEnd asked.terms.form told.0 told.1 (contents before) (contents after) status)
    pub fails : IfErr came (λ fault. (after ≡ before) × (status ≡ 3))

module _ {F K W : Type 0} (does : F → FileCall K → F → Type 0) (waits : F → ℕ → F → Type 0) (shown : K → Option Record) (may : K → Record → Type 0) (stored : K → Type 0) (contents : W → Option (List ℕ)) where
  -- the records were asked for a plan, which was carried out; or that failed, and the fault was reported
  pub record TellsPlan (asked : PlanCommand) (old new : F) (before after : W) (status : ℕ) : Type 0 where
    pub mid : F
    pub waited : waits old asked.terms.wait mid
    pub first : F
    pub came : Result (List Site × Planned) Fault
    pub found : FindsPlan does shown stored asked.folder.now asked.aim mid first came
    pub ends : IfOk came (λ told. PlanEnds does shown may stored contents asked.terms.form asked.folder.now told.0 told.1 first new before after status)
    pub fails : IfErr came (λ fault. (new ≡ first) × (after ≡ before) × (status ≡ 3))

module _ {F K G W : Type 0} (does : F → FileCall K → F → Type 0) (waits limits : F → ℕ → F → Type 0) (knows : F → List ℕ → List ℕ → Type 0) (shown : K → Option Record) (failed : K → ℕ) (may : K → Record → Type 0) (reopens : K → Result K (Unopened K) → Type 0) (gives_up : G → ℕ → ℕ → Type 0) (stored : K → Type 0) (contents : W → Option (List ℕ)) where
  -- A command on files was asked for, and what it came to was written in the form that was asked for: an output, which is that of
  -- these calls of the files; or a fault, which is. Files that are in use were waited for as long as
  -- was asked for, and documents were as long as was asked for at most.
  pub record DoesFiles (words : List (List ℕ)) (old new : F) (before after : Streams W) (status : ℕ) : Type 0 where
    pub command : FileCommand
    pub terms : Terms
    pub asked : AsksFiles words command terms
    pub first : F
    pub waited : waits old terms.wait first
    pub mid : F
    pub limited : limits first terms.most mid
    pub came : Result Output Fault
    pub led : IfOk came (λ output. Led does mid new (LeadsTo (knows new) shown failed may stored command output))
    pub broke : IfErr came (λ fault. Led does mid new (FailsBy shown failed may reopens gives_up stored command fault))
    pub unread : Keeps before.input after.input
    pub ends : CommandEnds terms.form came (contents before.output) (contents after.output) status

  -- several inputs were asked to be taken
  pub record DoesBatch (words : List (List ℕ)) (old new : F) (before after : Streams W) (status : ℕ) : Type 0 where
    pub batch : Batch
    pub asked : AsksBatch words batch
    pub unread : Keeps before.input after.input
    pub ends : TellsBatch does waits limits shown may stored contents batch old new before.output after.output status

  -- it was asked for the events by which sites close their gaps
  pub record DoesPacks (words : List (List ℕ)) (old new : F) (before after : Streams W) (status : ℕ) : Type 0 where
    pub files : PackFiles
    pub asked : AsksPacks words files
    pub unread : Keeps before.input after.input
    pub ends : TellsPacks does waits shown stored contents files old new before.output after.output status

  -- something was asked for that is planned
  pub record DoesPlan (words : List (List ℕ)) (old new : F) (before after : Streams W) (status : ℕ) : Type 0 where
    pub command : PlanCommand
    pub asked : AsksPlan words command
    pub unread : Keeps before.input after.input
    pub ends : TellsPlan does waits shown may stored contents command old new before.output after.output status

  -- documents were asked to be looked through
  pub record DoesLint (words : List (List ℕ)) (old new : F) (before after : Streams W) (status : ℕ) : Type 0 where
    pub files : LintFiles
    pub asked : AsksLint words files
    pub unread : Keeps before.input after.input
    pub ends : TellsLint does limits contents files old new before.output after.output status

  -- documents were asked to be converted
  pub record DoesConvert (words : List (List ℕ)) (old new : F) (before after : Streams W) (status : ℕ) : Type 0 where
    pub files : ConvertFiles
    pub asked : AsksConvert words files
    pub unread : Keeps before.input after.input
    pub ends : TellsConvert does limits contents files old new before.output after.output status

  -- how a command line ends, from old files to new ones
  abbrev pub Ends : List (String Global) → F → F → Streams W → Streams W → ℕ → Type 0
  Ends words old new before after status =
      RunsAsked contents old new before after status (texts_of words)
      ⊎ (DoesFiles (texts_of words) old new before after status
      ⊎ ((DoesBatch (texts_of words) old new before after status
      ⊎ (DoesLint (texts_of words) old new before after status
      ⊎ (DoesPacks (texts_of words) old new before after status
      ⊎ (DoesPlan (texts_of words) old new before after status ⊎ DoesConvert (texts_of words) old new before after status))))
      ⊎ (Helps contents old new before after status (texts_of words)
      ⊎ (IsMistaken contents old new before after status (texts_of words) ⊎ LacksMemory contents old new before after status))))
