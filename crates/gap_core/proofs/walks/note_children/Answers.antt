use Rattle.std.proofs.Common.{◌≡◌, ℕ, List, Some, slice_get, arith}
use Rattle.std.proofs.lemmas.List.{get_or_default}
use Rattle.trace_core.specs.Numbers.{numbered}
use Rattle.gap_core.proofs.Notings.{all_noted, one_more_noted}
use Rattle.gap_core.proofs.WalkSteps.{children_noted}
use Rattle.gap_core.proofs.walks.note_children.Goals as goal

pub loop-number-preserved : goal.loop-number-preserved
loop-number-preserved c =
    one_more_noted (λ (n : ℕ) (i : List ℕ). slice_get (numbered c.args.site.now.events) n ≡ Some i) c.children_of-number-items.result.now c.loop-number.number-index _ c.loop-number-test.true
    (get_or_default c.children_of-number-items.result.now c.loop-number.number-index _ _ (omega (arith, c.loop-number-test.true))) c.args.found.now c.loop-number.found c.note_number.new.found c.loop-number.invariant c.in_ok-note_number.ensures

pub returns : goal.returns
returns c =
    children_noted c.args.site.now.events c.args.item.now c.children_of-number-items.result.now c.children_of-number-items.ensures c.args.found.now c.loop-number.found
    (all_noted (λ (n : ℕ) (i : List ℕ). slice_get (numbered c.args.site.now.events) n ≡ Some i) c.children_of-number-items.result.now c.loop-number.number-index c.loop-number-test.false c.args.found.now c.loop-number.found c.loop-number.invariant)
