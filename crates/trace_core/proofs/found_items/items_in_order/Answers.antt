use Rattle.std.proofs.Common.{ap, arith}
use Rattle.trace_core.specs.Found.{items_at}
use Rattle.trace_core.proofs.FoundSteps.{none_below, below_more, all_below, refs_sorted}
use Rattle.trace_core.proofs.found_items.items_in_order.Goals as goal

pub loop-number-init : goal.loop-number-init
loop-number-init c = none_below c.args.book.now c.args.numbers.now (items_at c.new-items.result.items) (ap items_at c.new-items.ensures.items)

pub loop-number-preserved : goal.loop-number-preserved
loop-number-preserved c = below_more c.args.book.now c.args.numbers.now c.loop-number.number (items_at c.loop-number.items.items) (items_at c.push_if_marked.new.items.items) c.in_ok-push_if_marked.ensures c.loop-number.invariant

pub returns : goal.returns
returns c = all_below c.args.book.now c.args.numbers.now c.loop-number.number (items_at c.loop-number.items.items) (items_at c.sort.new.self.items) (omega (arith, c.loop-number-test.false, c.item_count-number-end.ensures))
    (refs_sorted c.loop-number.items.items c.sort.new.self.items c.sort.ensures.permutation) c.loop-number.invariant
