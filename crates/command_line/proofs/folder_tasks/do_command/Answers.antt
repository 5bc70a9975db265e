use Rattle.std.proofs.Common.{◌≡◌, ℕ, List, true, false, None, Some}
use Rattle.std.specs.Prelude.{⊤}
use Rattle.event_json.specs.Sites.{named}
use Rattle.frame_core.specs.Numbers.{Recall}
use Rattle.recall_outcomes.specs.declared.notes.Notes.{Notes}
use Rattle.recall_outcomes.specs.declared.notes.Notes.TheVariants.{Nothing}
use Rattle.recall_outcomes.specs.declared.outcomes.Outcome.{Outcome}
use Rattle.site_folders.specs.FileCalls.{Led}
use Rattle.site_folders.specs.Questions.{AsksAll, AsksSite}
use Rattle.site_folders.specs.Refusals.{IsNoSite}
use Rattle.site_folders.proofs.CallsInTurn.{handed_on}
use Rattle.folder_questions.specs.Asked.{AsksItem, AsksRecall, RefusesItem, RefusesRecall}
use Rattle.folder_questions.specs.Audits.{AnswersAudit}
use Rattle.folder_questions.specs.Contents.{AnswersContents}
use Rattle.folder_questions.specs.Coverage.{AnswersCoverage}
use Rattle.folder_questions.specs.DryStarts.{AnswersDryStart}
use Rattle.folder_questions.specs.Gaps.{AnswersGaps}
use Rattle.folder_questions.specs.Missed.{AnswersMissed}
use Rattle.folder_questions.specs.Reports.{AnswersReport}
use Rattle.folder_questions.specs.SiteItems.{AnswersItems}
use Rattle.folder_questions.specs.Standings.{AnswersRecall}
use Rattle.folder_questions.specs.ContentsTraces.{AnswersContentsTrace}
use Rattle.folder_questions.specs.Traces.{AnswersTrace}
use Rattle.command_line.specs.Leads.{TellsContents, Traces, TracesContents}
use Rattle.command_line.proofs.Behind.{and_who}
use Rattle.command_line.proofs.Starts.{Firsts, first_led, noted_led, plainly_led, start_led}
use Rattle.command_line.proofs.folder_tasks.do_command.Goals.{then-dry+in_ok-ask-in-Start, else-dry+in_ok-first-in-Start}
use Rattle.command_line.proofs.folder_tasks.do_command.Goals as goal

pub returns-in-Run-clause-failed : goal.returns-in-Run-clause-failed
returns-in-Run-clause-failed g c = rw c.in-Run.is c.run_sites.ensures.failed

pub returns-in-Init-clause-failed : goal.returns-in-Init-clause-failed
returns-in-Init-clause-failed g c = rw c.in-Init.is c.init.ensures.failed

pub returns-in-Copy-clause-failed : goal.returns-in-Copy-clause-failed
returns-in-Copy-clause-failed g c = rw c.in-Copy.is c.copy.ensures.failed

pub returns-in-Capture-clause-failed : goal.returns-in-Capture-clause-failed
returns-in-Capture-clause-failed g c = rw c.in-Capture.is c.capture.ensures.failed

pub returns-in_err-first-in-Start-clause-failed : goal.returns-in_err-first-in-Start-clause-failed
returns-in_err-first-in-Start-clause-failed g c =
    let fails = c.from_residual-in_err-first-in-Start in
    rw (c.in-Start.is, c.if-dry.false) (handed_on fails.result _ _ fails.ensures.1 c.in_err-first-in-Start.ensures.failed)

pub returns-after-dry-clause-led : goal.returns-after-dry-clause-led
returns-after-dry-clause-led g c =
    let does = g.F.Files.does in
    let knows = g.F.Files.knows c.with_knowers.new.files in
    let shown = g.K.SiteKeeper.shown in
    let failed = g.K.SiteKeeper.failed in
    let may = g.K.SiteKeeper.may in
    let stored = g.K.SiteKeeper.stored in
    let folder = c.in-Start.folder in
    let site = c.in-Start.site in
    let item = c.in-Start.item in
    let dry = c.in-Start.dry in
    let files = c.args.files.now in
    let first : Led does files c.if-dry.files (Firsts does knows shown failed may stored folder site item dry c.if-dry.first) =
    elim c.if-dry.branch [
      | then-dry+in_ok-ask-in-Start w ↦
          first_led does knows shown failed may stored folder site item dry true files c.if-dry.files w.ask.new.files c.if-dry.first w.with_notes-first.result w.if-dry.true w.files-is w.first-is
          (noted_led does
          (AsksAll {Q = ℕ × List ℕ} {A = Outcome × Notes} shown stored folder.now (λ sites told. RefusesItem site.now item sites told.0 × (told.1 ≡ Nothing)) (λ sites asked. AsksItem site.now item sites asked.0 asked.1)
          (λ asked rs told. AnswersDryStart rs asked.0 asked.1 told.0 told.1))
          files w.ask.new.files w.in_ok-ask-in-Start.field-0 w.with_notes-first.result w.with_notes-first.ensures.sites w.with_notes-first.ensures.outcome w.with_notes-first.ensures.notes w.in_ok-ask-in-Start.ensures.answered)
      | else-dry+in_ok-first-in-Start w ↦
          first_led does knows shown failed may stored folder site item dry false files c.if-dry.files w.start.new.files c.if-dry.first w.in_ok-first-in-Start.first w.if-dry.false w.files-is w.first-is w.in_ok-first-in-Start.ensures.calls
    ] in
    rw c.in-Start.is (start_led does knows shown failed may stored folder site item dry files c.if-dry.files c.with_knowers.new.files c.if-dry.first c.with_knowers.result first c.with_knowers.ensures)

pub returns-in_ok-ask-in-Report-clause-led : goal.returns-in_ok-ask-in-Report-clause-led
returns-in_ok-ask-in-Report-clause-led g c =
    let recall = c.in-Report.recall.now in
    rw c.in-Report.is
    (noted_led g.F.Files.does
    (AsksAll {Q = Recall} {A = Outcome × Notes} g.K.SiteKeeper.shown g.K.SiteKeeper.stored c.in-Report.folder.now (λ sites told. RefusesRecall recall sites told.0 × (told.1 ≡ Nothing)) (λ sites r. AsksRecall recall sites r)
    (λ r rs told. AnswersReport rs r c.in-Report.ways c.in-Report.events told.0 told.1))
    c.args.files.now c.ask-in-Report.new.files c.in_ok-ask-in-Report.field-0 c.with_notes.result c.with_notes.ensures.sites c.with_notes.ensures.outcome c.with_notes.ensures.notes c.in_ok-ask-in-Report.ensures.answered)

pub returns-in_ok-ask-in-Audit-clause-led : goal.returns-in_ok-ask-in-Audit-clause-led
returns-in_ok-ask-in-Audit-clause-led g c =
    rw c.in-Audit.is
    (noted_led g.F.Files.does
    (AsksAll {Q = ⊤} {A = Outcome × Notes} g.K.SiteKeeper.shown g.K.SiteKeeper.stored c.in-Audit.folder.now (λ sites told. ⊥) (λ sites asked. ⊤) (λ asked rs told. AnswersAudit rs c.in-Audit.ended c.in-Audit.coded told.0 told.1))
    c.args.files.now c.ask-in-Audit.new.files c.in_ok-ask-in-Audit.field-0 c.with_notes-in-Audit.result c.with_notes-in-Audit.ensures.sites c.with_notes-in-Audit.ensures.outcome c.with_notes-in-Audit.ensures.notes c.in_ok-ask-in-Audit.ensures.answered)

pub returns-in_ok-ask-in-Trace-clause-led : goal.returns-in_ok-ask-in-Trace-clause-led
returns-in_ok-ask-in-Trace-clause-led g c =
    let does = g.F.Files.does in
    let shown = g.K.SiteKeeper.shown in
    let stored = g.K.SiteKeeper.stored in
    let folder = c.in-Trace.folder.now in
    let site = c.in-Trace.site in
    let item = c.in-Trace.item in
    let back = c.in-Trace.back in
    let ways = c.in-Trace.ways in
    let events = c.in-Trace.events in
    rw c.in-Trace.is
    (and_who does shown stored folder (record { site = site; item = item }) (Traces shown stored folder site.now item back ways events) c.args.files.now c.ask-in-Trace.new.files c.with_knowers-in-Trace.new.files c.with_notes-first-in-Trace.result c.with_knowers-in-Trace.result
    (noted_led does
    (AsksAll {Q = ℕ × List ℕ} {A = Outcome × Notes} shown stored folder (λ sites told. RefusesItem site.now item sites told.0 × (told.1 ≡ Nothing)) (λ sites asked. AsksItem site.now item sites asked.0 asked.1)
    (λ asked rs told. AnswersTrace rs asked.0 asked.1 back ways events told.0 told.1))
    c.args.files.now c.ask-in-Trace.new.files c.in_ok-ask-in-Trace.field-0 c.with_notes-first-in-Trace.result c.with_notes-first-in-Trace.ensures.sites c.with_notes-first-in-Trace.ensures.outcome c.with_notes-first-in-Trace.ensures.notes
    c.in_ok-ask-in-Trace.ensures.answered)
    c.with_knowers-in-Trace.ensures)

pub returns-in_ok-ask-in-TraceContents-clause-led : goal.returns-in_ok-ask-in-TraceContents-clause-led
returns-in_ok-ask-in-TraceContents-clause-led g c =
    let does = g.F.Files.does in
    let shown = g.K.SiteKeeper.shown in
    let stored = g.K.SiteKeeper.stored in
    let folder = c.in-TraceContents.folder.now in
    let site = c.in-TraceContents.site in
    let item = c.in-TraceContents.item in
    let ways = c.in-TraceContents.ways in
    rw c.in-TraceContents.is
    (and_who does shown stored folder (record { site = site; item = item }) (TracesContents shown stored folder site.now item ways) c.args.files.now c.ask-in-TraceContents.new.files c.with_knowers-in-TraceContents.new.files
    c.with_notes-first-in-TraceContents.result c.with_knowers-in-TraceContents.result
    (noted_led does
    (AsksAll {Q = ℕ × List ℕ} {A = Outcome × Notes} shown stored folder (λ sites told. RefusesItem site.now item sites told.0 × (told.1 ≡ Nothing)) (λ sites asked. AsksItem site.now item sites asked.0 asked.1)
    (λ asked rs told. AnswersContentsTrace rs asked.0 asked.1 ways told.0 told.1))
    c.args.files.now c.ask-in-TraceContents.new.files c.in_ok-ask-in-TraceContents.field-0 c.with_notes-first-in-TraceContents.result c.with_notes-first-in-TraceContents.ensures.sites c.with_notes-first-in-TraceContents.ensures.outcome
    c.with_notes-first-in-TraceContents.ensures.notes c.in_ok-ask-in-TraceContents.ensures.answered)
    c.with_knowers-in-TraceContents.ensures)

pub returns-in_ok-ask-in-Recall-clause-led : goal.returns-in_ok-ask-in-Recall-clause-led
returns-in_ok-ask-in-Recall-clause-led g c =
    let recall = c.in-Recall.recall.now in
    rw c.in-Recall.is
    (noted_led g.F.Files.does
    (AsksAll {Q = Recall} {A = Outcome × Notes} g.K.SiteKeeper.shown g.K.SiteKeeper.stored c.in-Recall.folder.now (λ sites told. RefusesRecall recall sites told.0 × (told.1 ≡ Nothing)) (λ sites r. AsksRecall recall sites r)
    (λ r rs told. AnswersRecall rs r c.in-Recall.coded told.0 told.1))
    c.args.files.now c.ask-in-Recall.new.files c.in_ok-ask-in-Recall.field-0 c.with_notes-in-Recall.result c.with_notes-in-Recall.ensures.sites c.with_notes-in-Recall.ensures.outcome c.with_notes-in-Recall.ensures.notes
    c.in_ok-ask-in-Recall.ensures.answered)

pub returns-in_ok-ask_site-in-Items-clause-led : goal.returns-in_ok-ask_site-in-Items-clause-led
returns-in_ok-ask_site-in-Items-clause-led g c =
    let name = c.in-Items.site.now in
    rw c.in-Items.is
    (plainly_led g.F.Files.does
    (AsksSite {Q = ⊤} g.K.SiteKeeper.shown g.K.SiteKeeper.stored c.in-Items.folder.now (λ sites outcome. (named sites name ≡ None) × IsNoSite name outcome) (λ sites site asked. named sites name ≡ Some site)
    (λ asked r outcome. AnswersItems c.in-Items.text.now r outcome))
    c.args.files.now c.ask_site.new.files c.in_ok-ask_site-in-Items.field-0 c.plain.result c.plain.ensures.sites c.plain.ensures.outcome c.plain.ensures.silent
    c.in_ok-ask_site-in-Items.ensures.answered)

pub returns-in_ok-ask-in-Inside-clause-led : goal.returns-in_ok-ask-in-Inside-clause-led
returns-in_ok-ask-in-Inside-clause-led g c =
    let does = g.F.Files.does in
    let shown = g.K.SiteKeeper.shown in
    let stored = g.K.SiteKeeper.stored in
    let folder = c.in-Inside.folder.now in
    let site = c.in-Inside.site in
    let item = c.in-Inside.item in
    let text = c.in-Inside.text.now in
    rw c.in-Inside.is
    (and_who does shown stored folder (record { site = site; item = item }) (TellsContents shown stored folder site.now item text) c.args.files.now c.ask-in-Inside.new.files c.with_knowers-in-Inside.new.files c.plain-first.result c.with_knowers-in-Inside.result
    (plainly_led does
    (AsksAll {Q = ℕ × List ℕ} shown stored folder (λ sites outcome. RefusesItem site.now item sites outcome) (λ sites asked. AsksItem site.now item sites asked.0 asked.1)
    (λ asked rs outcome. AnswersContents rs asked.0 asked.1 text outcome))
    c.args.files.now c.ask-in-Inside.new.files c.in_ok-ask-in-Inside.field-0 c.plain-first.result c.plain-first.ensures.sites c.plain-first.ensures.outcome c.plain-first.ensures.silent
    c.in_ok-ask-in-Inside.ensures.answered)
    c.with_knowers-in-Inside.ensures)

pub returns-in_ok-ask-in-Gaps-clause-led : goal.returns-in_ok-ask-in-Gaps-clause-led
returns-in_ok-ask-in-Gaps-clause-led g c =
    rw c.in-Gaps.is
    (noted_led g.F.Files.does
    (AsksAll {Q = ⊤} {A = Outcome × Notes} g.K.SiteKeeper.shown g.K.SiteKeeper.stored c.in-Gaps.folder.now (λ sites told. ⊥) (λ sites asked. ⊤)
    (λ asked rs told. AnswersGaps rs c.in-Gaps.all c.in-Gaps.coded told.0 told.1))
    c.args.files.now c.ask-in-Gaps.new.files c.in_ok-ask-in-Gaps.field-0 c.with_notes-in-Gaps.result c.with_notes-in-Gaps.ensures.sites c.with_notes-in-Gaps.ensures.outcome c.with_notes-in-Gaps.ensures.notes c.in_ok-ask-in-Gaps.ensures.answered)

pub returns-in_ok-ask-in-Missed-clause-led : goal.returns-in_ok-ask-in-Missed-clause-led
returns-in_ok-ask-in-Missed-clause-led g c =
    let recall = c.in-Missed.recall.now in
    rw c.in-Missed.is
    (plainly_led g.F.Files.does
    (AsksAll {Q = Recall} g.K.SiteKeeper.shown g.K.SiteKeeper.stored c.in-Missed.folder.now (λ sites outcome. RefusesRecall recall sites outcome) (λ sites r. AsksRecall recall sites r)
    (λ r rs outcome. AnswersMissed rs r c.in-Missed.coded outcome))
    c.args.files.now c.ask-in-Missed.new.files c.in_ok-ask-in-Missed.field-0 c.plain-in-Missed.result c.plain-in-Missed.ensures.sites c.plain-in-Missed.ensures.outcome c.plain-in-Missed.ensures.silent
    c.in_ok-ask-in-Missed.ensures.answered)

pub returns-in_ok-ask-in-Coverage-clause-led : goal.returns-in_ok-ask-in-Coverage-clause-led
returns-in_ok-ask-in-Coverage-clause-led g c =
    rw c.in-Coverage.is
    (plainly_led g.F.Files.does
    (AsksAll {Q = ⊤} g.K.SiteKeeper.shown g.K.SiteKeeper.stored c.in-Coverage.folder.now (λ sites outcome. ⊥) (λ sites asked. ⊤) (λ asked rs outcome. AnswersCoverage rs outcome))
    c.args.files.now c.ask-in-Coverage.new.files c.in_ok-ask-in-Coverage.field-0 c.plain-in-Coverage.result c.plain-in-Coverage.ensures.sites c.plain-in-Coverage.ensures.outcome c.plain-in-Coverage.ensures.silent
    c.in_ok-ask-in-Coverage.ensures.answered)
