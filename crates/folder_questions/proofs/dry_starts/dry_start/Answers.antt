use Rattle.std.proofs.Common.{ℕ, List, subst}
use Rattle.report_core.proofs.KnownItems.{none_known}
use Rattle.site_core.specs.declared.inputs.SiteInput.TheVariants.{Start}
use Rattle.site_recovery.specs.Checking.{records_at, world_at}
use Rattle.folder_questions.specs.Beside.{Beside}
use Rattle.folder_questions.specs.DryStarts.{AnswersStep}
use Rattle.folder_questions.specs.MissedNotes.{NotesMissedFrom}
use Rattle.folder_questions.proofs.DryStartLemmas.{unknown_start}
use Rattle.folder_questions.proofs.dry_starts.dry_start.Goals as goal

pub returns-in_default : goal.returns-in_default
returns-in_default c =
    let W = world_at c.args.records.now in
    let records = records_at c.args.records.now in
    let noted = subst (λ (i : List ℕ). Beside records (NotesMissedFrom records (record { site = c.args.site; item = i })) c.in_ok-notes.notes) c.in_ok-copy.ensures c.in_ok-notes.ensures in
    (unknown_start (W c.args.site) c.args.item c.in_ok-unknown.field-0 (none_known W c.args.site c.args.item c.in_default.ensures) c.in_ok-unknown.ensures, noted)

pub returns : goal.returns
returns c =
    let records = records_at c.args.records.now in (
      subst (λ r. AnswersStep r (Start c.args.item) c.in_ok-would_start.field-0) c.in-Some.ensures c.in_ok-would_start.ensures.answered,
      subst (λ (i : List ℕ). Beside records (NotesMissedFrom records (record { site = c.args.site; item = i })) c.in_ok-notes.notes) c.in_ok-copy.ensures c.in_ok-notes.ensures,
    )
