use Rattle.trace_core.proofs.PairLaws.{ship_relates}
use Rattle.trace_core.proofs.laws.ship_relates.Goals as goal

pub returns : goal.returns
returns c = ship_relates
