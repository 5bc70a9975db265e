use Rattle.std.proofs.Common.{◌↔◌, ◌∙◌, IfOk, List, ap, subst}
use Rattle.std.specs.List.{Contains}
use Rattle.std.proofs.lemmas.Result.{IfOk-weaker}
use Rattle.site_recovery.specs.Checking.{records_at}
use Rattle.trace_core.specs.Chains.{Related, sites_at}
use Rattle.trace_core.specs.Relations.{Reaches}
use Rattle.trace_core.specs.Sites.{SiteEvents}
use Rattle.trace_core.specs.declared.pairs.Pair.{Pair}
use Rattle.folder_questions.specs.Beside.{Beside}
use Rattle.folder_questions.specs.MissedNotes.{NotesMissed, NotesMissedFrom}
use Rattle.folder_questions.proofs.BesideLemmas.{missed_from_all}
use Rattle.folder_questions.proofs.beside.notes_from.Goals as goal

pub returns : goal.returns
returns c =
    let records = records_at c.args.records.now in
    let root = c.args.root.now in
    let pairs = c.in_ok-pairs.pairs.items in
    let reached = subst (λ (ss : List SiteEvents). (p : Pair) → Contains pairs p ↔ Reaches (Related ss) root p) (ap sites_at c.as_slice.ensures.value ∙ c.in_ok-captured.ensures) c.in_ok-pairs.ensures.reached in
    IfOk-weaker c.notes_beside.result (Beside records (NotesMissed records pairs root)) (Beside records (NotesMissedFrom records root)) (missed_from_all records root pairs reached)
    (subst (λ ps. IfOk c.notes_beside.result (Beside records (NotesMissed records ps root))) c.as_slice-2.ensures.value c.notes_beside.ensures)
