-- What each command on a folder does, a row a command: what the calls of the files that lead to its output say of the records and of
-- what it comes to; and which calls lead to a fault. What a keeper shows is stated by its kind.
use Rattle.std.specs.Prelude.{◌≡◌, ⊤, ℕ, Bool, true, false, List, Option, None, Some, Result}
use Rattle.event_json.specs.Sites.{Site, named}
use Rattle.frame_core.specs.Numbers.{Recall}
use Rattle.item_spellings.specs.declared.spellings.Spelled.{Spelled}
use Rattle.keeper_core.specs.declared.faults.Unopened.{Unopened}
use Rattle.recall_outcomes.specs.declared.faults.Fault.{Fault}
use Rattle.recall_outcomes.specs.declared.notes.Notes.{Notes}
use Rattle.recall_outcomes.specs.declared.notes.Notes.TheVariants.{Nothing}
use Rattle.recall_outcomes.specs.declared.outcomes.Outcome.{Outcome}
use Rattle.recall_outcomes.specs.declared.outcomes.Output.{Output}
use Rattle.recall_outcomes.specs.declared.outcomes.Ways.{Ways}
use Rattle.site_core.specs.Records.{Record}
use Rattle.site_folders.specs.Faults.{EndsInVain}
use Rattle.site_folders.specs.FileCalls.{FileCall}
use Rattle.site_folders.specs.Questions.{AsksAll, AsksSite}
use Rattle.site_folders.specs.Refusals.{IsNoSite}
use Rattle.folder_questions.specs.Asked.{AsksItem, AsksRecall, RefusesItem, RefusesRecall}
use Rattle.folder_questions.specs.Audits.{AnswersAudit}
use Rattle.folder_questions.specs.Contents.{AnswersContents}
use Rattle.folder_questions.specs.ContentsTraces.{AnswersContentsTrace}
use Rattle.folder_questions.specs.Coverage.{AnswersCoverage}
use Rattle.folder_questions.specs.DryStarts.{AnswersDryStart}
use Rattle.folder_questions.specs.Gaps.{AnswersGaps}
use Rattle.folder_questions.specs.Missed.{AnswersMissed}
use Rattle.folder_questions.specs.Reports.{AnswersReport}
use Rattle.folder_questions.specs.SiteItems.{AnswersItems}
use Rattle.folder_questions.specs.Standings.{AnswersRecall, AnswersRecalls}
use Rattle.folder_questions.specs.Traces.{AnswersTrace}
use Rattle.folder_commands.specs.Copying.{CopiesAt, CopyFails}
use Rattle.folder_commands.specs.Making.{InitFails, InitsAt}
use Rattle.folder_commands.specs.Runs.{RunFails, RunsAt}
use Rattle.folder_commands.specs.Steps.{CaptureFails, CapturesAt, StartFails, StartsAt}
use Rattle.command_line.specs.UnknownItems.{AndWho}
use Rattle.command_line.specs.declared.asked.FileCommand.{FileCommand}
use Rattle.command_line.specs.declared.asked.FileCommand.TheVariants.{Init, Copy, Capture, Start, Run, Report, Audit, Trace, TraceContents, Recalls, Recall as OneRecall, Items, Inside, Coverage, Gaps, Missed}

-- an outcome beside which nothing is noted
abbrev pub Plainly : {K : Type 0} → (List Site → Outcome → List (FileCall K) → Type 0) → Output → List (FileCall K) → Type 0
Plainly Tells output calls = Tells output.sites output.outcome calls × (output.notes ≡ Nothing)

-- ---- the questions

module _ {K : Type 0} (shown : K → Option Record) (stored : K → Type 0) (folder : List ℕ) where
  -- whether the records are consistent, how each recall's quarantine compares with what its root reaches, and what is stuck; or
  -- of records that were copied one after another how those that have ended compare
  abbrev pub Audits : Bool → Bool → Output → List (FileCall K) → Type 0
  Audits ended coded output =
      AsksAll {Q = ⊤} {A = Outcome × Notes} shown stored folder (λ sites told. ⊥) (λ sites asked. ⊤) (λ asked rs told. AnswersAudit rs ended coded told.0 told.1)
      output.sites (output.outcome, output.notes)

  -- how all recalls stand
  abbrev pub AllStand : Bool → Output → List (FileCall K) → Type 0
  AllStand coded output =
      AsksAll {Q = ⊤} {A = Outcome × Notes} shown stored folder (λ sites told. ⊥) (λ sites asked. ⊤) (λ asked rs told. AnswersRecalls rs coded told.0 told.1)
      output.sites (output.outcome, output.notes)

  -- how the recall of a text stands, and what it waits for
  abbrev pub OneStands : List ℕ → Bool → Output → List (FileCall K) → Type 0
  OneStands recall coded output =
      AsksAll {Q = Recall} {A = Outcome × Notes} shown stored folder (λ sites told. RefusesRecall recall sites told.0 × (told.1 ≡ Nothing)) (λ sites r. AsksRecall recall sites r)
      (λ r rs told. AnswersRecall rs r coded told.0 told.1)
      output.sites (output.outcome, output.notes)

  -- what is quarantined for the recall of a text, how it got there, and what left; and what that misses
  abbrev pub Reports : List ℕ → Ways → Bool → Output → List (FileCall K) → Type 0
  Reports recall ways events output =
      AsksAll {Q = Recall} {A = Outcome × Notes} shown stored folder (λ sites told. RefusesRecall recall sites told.0 × (told.1 ≡ Nothing)) (λ sites r. AsksRecall recall sites r)
      (λ r rs told. AnswersReport rs r ways events told.0 told.1)
      output.sites (output.outcome, output.notes)

  -- where the item at the site of a name went, or came from; and what is missed of where it went
  abbrev pub Traces : List ℕ → Spelled → Bool → Ways → Bool → Output → List (FileCall K) → Type 0
  Traces name item back ways events output =
      AsksAll {Q = ℕ × List ℕ} {A = Outcome × Notes} shown stored folder (λ sites told. RefusesItem name item sites told.0 × (told.1 ≡ Nothing))
      (λ sites asked. AsksItem name item sites asked.0 asked.1)
      (λ asked rs told. AnswersTrace rs asked.0 asked.1 back ways events told.0 told.1)
      output.sites (output.outcome, output.notes)

  -- what each site captured, and from when to when
  abbrev pub TellsCoverage : Output → List (FileCall K) → Type 0
  TellsCoverage =
      Plainly
      (AsksAll {Q = ⊤} shown stored folder (λ sites outcome. ⊥) (λ sites asked. ⊤) (λ asked rs outcome. AnswersCoverage rs outcome))

  -- where the item at the site of a name and what lies in it went; and what is missed of that
  abbrev pub TracesContents : List ℕ → Spelled → Ways → Output → List (FileCall K) → Type 0
  TracesContents name item ways output =
      AsksAll {Q = ℕ × List ℕ} {A = Outcome × Notes} shown stored folder (λ sites told. RefusesItem name item sites told.0 × (told.1 ≡ Nothing))
      (λ sites asked. AsksItem name item sites asked.0 asked.1)
      (λ asked rs told. AnswersContentsTrace rs asked.0 asked.1 ways told.0 told.1)
      output.sites (output.outcome, output.notes)

  -- what sites tell nothing of that others packed, or sent them; and how much never came from where it was packed
  abbrev pub FindsGaps : Bool → Bool → Output → List (FileCall K) → Type 0
  FindsGaps all coded output =
      AsksAll {Q = ⊤} {A = Outcome × Notes} shown stored folder (λ sites told. ⊥) (λ sites asked. ⊤) (λ asked rs told. AnswersGaps rs all coded told.0 told.1)
      output.sites (output.outcome, output.notes)

  -- what the recall of a text misses
  abbrev pub FindsMissed : List ℕ → Bool → Output → List (FileCall K) → Type 0
  FindsMissed recall coded =
      Plainly
      (AsksAll {Q = Recall} shown stored folder (λ sites outcome. RefusesRecall recall sites outcome) (λ sites r. AsksRecall recall sites r)
      (λ r rs outcome. AnswersMissed rs r coded outcome))

  -- what the start of a recall of the item would do at the site of a name, what the recall would miss, and what lies in the item
  abbrev pub DryStarts : List ℕ → Spelled → Output → List (FileCall K) → Type 0
  DryStarts name item output =
      AsksAll {Q = ℕ × List ℕ} {A = Outcome × Notes} shown stored folder (λ sites told. RefusesItem name item sites told.0 × (told.1 ≡ Nothing))
      (λ sites asked. AsksItem name item sites asked.0 asked.1)
      (λ asked rs told. AnswersDryStart rs asked.0 asked.1 told.0 told.1)
      output.sites (output.outcome, output.notes)

  -- which items the site of a name knows whose keys contain the text
  abbrev pub KnownItems : List ℕ → List ℕ → Output → List (FileCall K) → Type 0
  KnownItems name text =
      Plainly
      (AsksSite {Q = ⊤} shown stored folder (λ sites outcome. (named sites name ≡ None) × IsNoSite name outcome)
      (λ sites site asked. named sites name ≡ Some site)
      (λ asked r outcome. AnswersItems text r outcome))

  -- what lies in the item, at the site of a name, by the packings of all sites, whose keys contain the text
  abbrev pub TellsContents : List ℕ → Spelled → List ℕ → Output → List (FileCall K) → Type 0
  TellsContents name item text =
      Plainly
      (AsksAll {Q = ℕ × List ℕ} shown stored folder (λ sites outcome. RefusesItem name item sites outcome) (λ sites asked. AsksItem name item sites asked.0 asked.1)
      (λ asked rs outcome. AnswersContents rs asked.0 asked.1 text outcome))

-- ---- all commands

module _ {K : Type 0} (knows : List ℕ → List ℕ → Type 0) (shown : K → Option Record) (failed : K → ℕ) (may : K → Record → Type 0) (stored : K → Type 0) where
  -- The calls of the command, which lead to this output. Behind a command on an item that the site doesn't know it is asked who does.
  abbrev pub LeadsTo : FileCommand → Output → List (FileCall K) → Type 0
  LeadsTo (Init folder list) output calls = InitsAt folder.now list.now output calls
  LeadsTo (Copy folder to) output calls = CopiesAt shown stored folder.now to.now output calls
  LeadsTo (Capture folder site file) output calls = CapturesAt shown stored folder.now site.now file.now output calls
  LeadsTo (Start folder site item false) output calls =
      AndWho shown stored folder.now (record { site = site; item = item }) (StartsAt shown stored folder.now site.now item) output calls
  LeadsTo (Start folder site item true) output calls =
      AndWho shown stored folder.now (record { site = site; item = item }) (DryStarts shown stored folder.now site.now item) output calls
  LeadsTo (Run folder terms) output calls = RunsAt knows shown failed may stored folder.now terms output calls
  LeadsTo (Report folder recall ways events) output calls = Reports shown stored folder.now recall.now ways events output calls
  LeadsTo (Audit folder ended coded) output calls = Audits shown stored folder.now ended coded output calls
  LeadsTo (Trace folder site item back ways events) output calls =
      AndWho shown stored folder.now (record { site = site; item = item }) (Traces shown stored folder.now site.now item back ways events) output calls
  LeadsTo (TraceContents folder site item ways) output calls =
      AndWho shown stored folder.now (record { site = site; item = item }) (TracesContents shown stored folder.now site.now item ways) output calls
  LeadsTo (Recalls folder coded) output calls = AllStand shown stored folder.now coded output calls
  LeadsTo (OneRecall folder recall coded) output calls = OneStands shown stored folder.now recall.now coded output calls
  LeadsTo (Items folder site text) output calls = KnownItems shown stored folder.now site.now text.now output calls
  LeadsTo (Inside folder site item text) output calls =
      AndWho shown stored folder.now (record { site = site; item = item }) (TellsContents shown stored folder.now site.now item text.now) output calls
  LeadsTo (Coverage folder) output calls = TellsCoverage shown stored folder.now output calls
  LeadsTo (Gaps folder all coded) output calls = FindsGaps shown stored folder.now all coded output calls
  LeadsTo (Missed folder recall coded) output calls = FindsMissed shown stored folder.now recall.now coded output calls

module _ {K G : Type 0} (shown : K → Option Record) (failed : K → ℕ) (may : K → Record → Type 0) (reopens : K → Result K (Unopened K) → Type 0) (gives_up : G → ℕ → ℕ → Type 0) (stored : K → Type 0) where
  -- the calls of the command, which lead to this fault: a question changed nothing
  abbrev pub FailsBy : FileCommand → Fault → List (FileCall K) → Type 0
  FailsBy (Init folder list) fault calls = InitFails folder.now shown list.now fault calls
  FailsBy (Copy folder to) fault calls = CopyFails shown stored folder.now to.now fault calls
  FailsBy (Capture folder site file) fault calls = CaptureFails shown may failed stored folder.now site.now file.now fault calls
  FailsBy (Start folder site item false) fault calls = StartFails shown may failed stored folder.now site.now item fault calls
  FailsBy (Start folder site item true) fault calls = EndsInVain shown folder.now fault calls
  FailsBy (Run folder terms) fault calls = RunFails shown failed may reopens gives_up stored folder.now terms fault calls
  FailsBy (Report folder recall ways events) fault calls = EndsInVain shown folder.now fault calls
  FailsBy (Audit folder ended coded) fault calls = EndsInVain shown folder.now fault calls
  FailsBy (Trace folder site item back ways events) fault calls = EndsInVain shown folder.now fault calls
  FailsBy (TraceContents folder site item ways) fault calls = EndsInVain shown folder.now fault calls
  FailsBy (Recalls folder coded) fault calls = EndsInVain shown folder.now fault calls
  FailsBy (OneRecall folder recall coded) fault calls = EndsInVain shown folder.now fault calls
  FailsBy (Items folder site text) fault calls = EndsInVain shown folder.now fault calls
  FailsBy (Inside folder site item text) fault calls = EndsInVain shown folder.now fault calls
  FailsBy (Coverage folder) fault calls = EndsInVain shown folder.now fault calls
  FailsBy (Gaps folder all coded) fault calls = EndsInVain shown folder.now fault calls
  FailsBy (Missed folder recall coded) fault calls = EndsInVain shown folder.now fault calls
