use Rattle.trace_core.specs.Chains.{sites_at}
use Rattle.site_recovery.proofs.ReachedItems.{alone_reached}
use Rattle.site_recovery.proofs.reached_items.reached_by.Goals as goal

pub returns : goal.returns
returns c = alone_reached (sites_at c.args.captured.now) c.args.count c.args.recall c.args.root.now c.in_ok-reached.reached.items c.hold_reach.new.reached.items c.in_ok-reached.ensures.0 c.in_ok-reached.ensures.1 c.in_ok-hold_reach.ensures
