use Rattle.std.proofs.Common.{subst, sym, ◌∙◌}
use Rattle.std.specs.Ordering.{nat_cmp}
use Rattle.std.specs.FinMap.{get-from_sorted}
use Rattle.frame_core.specs.Tables.{as_map}
use Rattle.frame_core.proofs.Ascending.{ascending_keys}
use Rattle.frame_core.proofs.Placing.{IsLeft, all_left, left_none, left_first, left_later, is_same, is_other}
use Rattle.frame_core.proofs.places.first_of.Goals as goal

pub loop-number-init : goal.loop-number-init
loop-number-init c =
    let up = ascending_keys nat_cmp c.args.rows.now.entries c.range-number-items.ensures.ordered in
    subst (IsLeft (as_map nat_cmp c.args.rows.now) c.args.dest c.args.from) (sym (c.into_iter-number-iterator.ensures.into_iter_gives ∙ c.range-number-items.ensures.between tt))
    (all_left (as_map nat_cmp c.args.rows.now) c.args.dest c.args.from c.args.rows.now.entries up (λ n. get-from_sorted nat_cmp c.args.rows.now.entries n up))

pub returns-then-eq : goal.returns-then-eq
returns-then-eq c = left_first _ _ _ _ c.loop-number.invariant _ _ _ c.in-Some.ensures.steps (is_same _ _ (sym c.eq.ensures ∙ c.if-eq.true))

pub loop-number-preserved : goal.loop-number-preserved
loop-number-preserved c = left_later _ _ _ _ c.loop-number.invariant _ _ _ c.in-Some.ensures.steps (is_other _ _ (sym c.eq.ensures ∙ c.if-eq.false))

pub returns : goal.returns
returns c = left_none _ _ _ _ c.loop-number.invariant c.in-None.ensures.steps.0
