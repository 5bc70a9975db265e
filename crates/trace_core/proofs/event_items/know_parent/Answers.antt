use Rattle.trace_core.proofs.ItemSteps.{knows_parent}
use Rattle.trace_core.proofs.event_items.know_parent.Goals as goal

pub returns-in_ok-know-clause-ok : goal.returns-in_ok-know-clause-ok
returns-in_ok-know-clause-ok c = knows_parent c.args.known.now c.know.new.self c.args.parent.now _ c.in-Some.is c.in_ok-know.ensures.ok
