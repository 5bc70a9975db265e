use Rattle.query_core.proofs.Mentioning.{one_more_mentioned}
use Rattle.query_core.proofs.mentions.mention_all.Goals as goal

pub loop-item-preserved : goal.loop-item-preserved
loop-item-preserved c =
    one_more_mentioned c.args.place c.args.items.now c.loop-item.item-index c.item-item.result c.args.counts.now c.loop-item.counts c.mention.new.counts c.loop-item-test.true c.item-item.is c.loop-item.invariant c.in_ok-mention.ensures
