use Rattle.gap_core.proofs.BatchSteps.{sites_read}
use Rattle.gap_core.proofs.batches.read_body.Goals as goal

pub returns-in-Ship : goal.returns-in-Ship
returns-in-Ship c = sites_read c.args.body.now _ _ _ c.as_slice.result.now c.in-Ship.is c.as_slice.ensures c.read_each.ensures
