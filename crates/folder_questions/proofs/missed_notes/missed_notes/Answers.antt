use Rattle.std.proofs.Common.{◌∙◌, List, ap, sym, subst, inl, inr, ⊎_elim}
use Rattle.site_recovery.specs.Checking.{records_at}
use Rattle.trace_core.specs.Chains.{sites_at}
use Rattle.trace_core.specs.declared.pairs.Pair.{Pair}
use Rattle.folder_questions.specs.MissedNotes.{AreMissedOf, IsReachBeside}
use Rattle.folder_questions.proofs.NoneLemmas.{nothing_is, something_is}
use Rattle.folder_questions.proofs.MissedNoteLemmas.{are_missed_of, counts_inside, touched_by}
use Rattle.folder_questions.proofs.missed_notes.missed_notes.Goals as goal

pub returns-then-are_none : goal.returns-then-are_none
returns-then-are_none c =
    let records = records_at c.args.records.now in
    let same = ap sites_at c.as_slice.ensures.value ∙ c.in_ok-captured.ensures in
    let (none, no_count) = nothing_is c.as_slice-3.result.now c.len-count.result (sym c.if-are_none.true ∙ c.are_none.ensures) in
    let all = are_missed_of records (sites_at c.as_slice.result.now) c.args.pairs.now c.in_ok-missed.missed.items same c.in_ok-missed.ensures.ascending c.in_ok-missed.ensures.exact in
    let (items, inside, count) = counts_inside records (sites_at c.as_slice-2.result.now) c.args.root.now.item c.in_ok-inside.inside.items c.len-count.result (ap sites_at c.as_slice-2.ensures.value ∙ c.in_ok-captured.ensures) c.in_ok-inside.ensures (c.len-count.ensures ∙ c.in_ok-inside.inside.ok.0) in
    (subst (AreMissedOf records c.args.pairs.now) (sym c.as_slice-3.ensures.value ∙ none) all, (items, inside, sym no_count ∙ count))

pub returns : goal.returns
returns c =
    let records = records_at c.args.records.now in
    let missed = c.in_ok-missed.missed.items in
    let same = ap sites_at c.as_slice.ensures.value ∙ c.in_ok-captured.ensures in (
      are_missed_of records (sites_at c.as_slice.result.now) c.args.pairs.now missed same c.in_ok-missed.ensures.ascending c.in_ok-missed.ensures.exact,
      touched_by records (sites_at c.as_slice-4.result.now) c.as_slice-5.result.now missed c.in_ok-gap_lines_with.field-0.items (ap sites_at c.as_slice-4.ensures.value ∙ c.in_ok-captured.ensures) c.as_slice-5.ensures.value c.in_ok-gap_lines_with.ensures,
      subst (λ (ps : List Pair). IsReachBeside records c.args.root.now ps c.in_ok-reach_beside.field-0) c.as_slice-6.ensures.value c.in_ok-reach_beside.ensures,
      counts_inside records (sites_at c.as_slice-2.result.now) c.args.root.now.item c.in_ok-inside.inside.items c.len-count.result (ap sites_at c.as_slice-2.ensures.value ∙ c.in_ok-captured.ensures) c.in_ok-inside.ensures (c.len-count.ensures ∙ c.in_ok-inside.inside.ok.0),
      ⊎_elim (λ some. inl (λ none. some (c.as_slice-3.ensures.value ∙ none))) (λ some. inr some)
          (something_is c.as_slice-3.result.now c.len-count.result (sym c.if-are_none.false ∙ c.are_none.ensures)),
    )
