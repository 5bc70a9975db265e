use Rattle.std.proofs.Common.{refl, sym, subst, ap, ◌∙◌, ◌++◌, ◌∷◌, []}
use Rattle.std.specs.Prelude.{T, ◌==◌}
use Rattle.std.specs.FinMap.{is_sorted}
use Rattle.std.specs.Ordering.{ordering_index, ordering_then}
use Rattle.site_rows.specs.HeldItems.{held_cmp, held_of, all_held}
use Rattle.site_rows.proofs.HeldInTurn.{held_total, comes_behind, all_ascend}
use Rattle.site_rows.proofs.reading_held.comes_last.Goals as goal

pub returns-in-Some : goal.returns-in-Some
returns-in-Some c =
    comes_behind held_cmp held_total (all_held c.args.quarantine.now) (held_of c.in-Some.last.0 c.in-Some.last.1.now) (c.args.recall, c.args.item.now) tt c.eq.result
    (all_ascend c.args.quarantine.now) c.in-Some.ensures.some (c.eq.ensures ∙ ap (λ o. ordering_index o == 0) (c.then.ensures ∙ (λ i. ordering_then (c.cmp.ensures i) (c.cmp-in-Some.ensures i))))

pub returns-in-None : goal.returns-in-None
returns-in-None c = (
  λ _. subst (λ hs. T (is_sorted held_cmp (hs ++ held_of c.args.recall c.args.item.now ∷ []))) (sym (c.in-None.ensures.none refl)) tt,
  λ _. refl,
)
