use Rattle.std.proofs.Common.{◌==◌, ◌∙◌, List, length, ap, refl, subst, sym}
use mathlib.Core.Bool.{false≢true}
use Rattle.std.proofs.lemmas.Bool.{eqb-true}
use Rattle.site_recovery.specs.Checking.{records_at}
use Rattle.trace_core.specs.Chains.{sites_at}
use Rattle.trace_core.specs.declared.pairs.Pair.{Pair}
use Rattle.folder_questions.specs.MissedNotes.{AreMissedOf}
use Rattle.folder_questions.proofs.MissedNoteLemmas.{are_missed_of, touched_by}
use Rattle.folder_questions.proofs.NoneLemmas.{none_are}
use Rattle.folder_questions.proofs.missed_notes.missed_notes_alone.Goals as goal

pub returns-then-is_empty : goal.returns-then-is_empty
returns-then-is_empty c =
    let records = records_at c.args.records.now in
    let missed = c.in_ok-missed.missed.items in
    let same = ap sites_at c.as_slice.ensures.value ∙ c.in_ok-captured.ensures in
    subst (AreMissedOf records c.args.pairs.now) (none_are missed (eqb-true (length missed) 0 (ap (λ n. n == 0) (sym c.in_ok-missed.missed.ok.0) ∙ sym c.is_empty.ensures ∙ c.if-is_empty.true)))
    (are_missed_of records (sites_at c.as_slice.result.now) c.args.pairs.now missed same c.in_ok-missed.ensures.ascending c.in_ok-missed.ensures.exact)

pub returns : goal.returns
returns c =
    let records = records_at c.args.records.now in
    let missed = c.in_ok-missed.missed.items in
    let same = ap sites_at c.as_slice.ensures.value ∙ c.in_ok-captured.ensures in (
      are_missed_of records (sites_at c.as_slice.result.now) c.args.pairs.now missed same c.in_ok-missed.ensures.ascending c.in_ok-missed.ensures.exact,
      touched_by records (sites_at c.as_slice-2.result.now) c.as_slice-3.result.now missed c.in_ok-gap_lines_with.field-0.items (ap sites_at c.as_slice-2.ensures.value ∙ c.in_ok-captured.ensures) c.as_slice-3.ensures.value c.in_ok-gap_lines_with.ensures,
      c.nothing.ensures,
      refl,
      λ none. false≢true (sym c.if-is_empty.false ∙ c.is_empty.ensures ∙ ap (λ n. n == 0) c.in_ok-missed.missed.ok.0 ∙ ap (λ (ms : List Pair). length ms == 0) none),
    )
