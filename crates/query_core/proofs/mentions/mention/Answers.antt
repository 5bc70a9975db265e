use Rattle.query_core.proofs.Mentioning.{newly_mentioned}
use Rattle.query_core.proofs.mentions.mention.Goals as goal

-- the item is new
pub returns : goal.returns
returns c =
    newly_mentioned c.args.place c.args.counts.now c.get_mut.follows.lender-at-none c.insert.new.self c.args.item.now c.in_ok-own.own c.get_mut.follows.holds-at-none c.in_ok-own.ensures
    c.in_default.ensures.value c.in_ok-insert.ensures.updates
