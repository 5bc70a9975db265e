use Rattle.std.proofs.Common.{◌≡◌}
use Rattle.site_core.specs.ItemSets as set
use Rattle.query_core.proofs.Keeping.{InList, first_item, keeping_goes_on}
use Rattle.query_core.proofs.mentions.keep_all.Goals as goal

pub loop-item-preserved : goal.loop-item-preserved
loop-item-preserved c =
    keeping_goes_on c.args.counts.now c.loop-item.counts c.keep.new.counts (InList c.loop-item.item-iterator) (λ i. c.in-Some.item.now ≡ i) (InList c.next.new.self) (InList (set.items c.args.items.now))
    (first_item c.loop-item.item-iterator c.next.new.self c.in-Some.item.now c.in-Some.ensures.steps) c.loop-item.invariant c.in_ok-keep.ensures
