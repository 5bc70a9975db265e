use Rattle.site_core.proofs.HeldIndex.{held_by_some}
use Rattle.site_core.proofs.holding.is_held.Goals as goal

pub returns-in-Some : goal.returns-in-Some
returns-in-Some c = held_by_some c.args.quarantine.now c.args.item.now c.in-Some.recalls.now c.is_empty.result c.is_empty.ensures c.in-Some.ensures
