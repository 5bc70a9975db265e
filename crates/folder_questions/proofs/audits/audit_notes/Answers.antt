use Rattle.std.proofs.Common.{◌∙◌, List, length, refl, sym, ap, subst, inl, inr, ⊎_elim}
use Rattle.site_folders.specs.Missing.{AreMissedFrom}
use Rattle.site_recovery.specs.Checking.{records_at}
use Rattle.trace_core.specs.declared.pairs.Pair.{Pair}
use Rattle.folder_questions.proofs.NoneLemmas.{none_are, nothing_is, something_is}
use Rattle.folder_questions.proofs.audits.audit_notes.Goals as goal

pub returns-then-are_none : goal.returns-then-are_none
returns-then-are_none c =
    let records = records_at c.args.records.now in
    let (none, no_count) = nothing_is c.as_slice-2.result.now c.len.result (sym c.if-are_none.true ∙ c.are_none.ensures) in
    let same = c.as_slice.ensures.value ∙ c.in_ok-roots.ensures in (
      none_are c.args.stuck.items (sym c.args.stuck.ok.0 ∙ sym c.len.ensures ∙ no_count),
      subst (λ (rs : List Pair). AreMissedFrom records rs _) same (subst (AreMissedFrom records c.as_slice.result.now) (sym c.as_slice-2.ensures.value ∙ none) c.in_ok-missed.ensures),
    )

pub returns : goal.returns
returns c =
    let records = records_at c.args.records.now in
    let same = c.as_slice.ensures.value ∙ c.in_ok-roots.ensures in (
      refl,
      subst (λ (rs : List Pair). AreMissedFrom records rs c.in_ok-missed.missed.items) same c.in_ok-missed.ensures,
      ⊎_elim (λ some. inr (λ none. some (c.as_slice-2.ensures.value ∙ none))) (λ some. inl (λ none. some (c.len.ensures ∙ c.args.stuck.ok.0 ∙ ap length none)))
          (something_is c.as_slice-2.result.now c.len.result (sym c.if-are_none.false ∙ c.are_none.ensures)),
    )
