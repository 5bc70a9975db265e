use Rattle.trace_core.proofs.OrderLaws.{pairs_are_in_order}
use Rattle.trace_core.proofs.laws.pairs_are_in_order.Goals as goal

pub returns : goal.returns
returns c = pairs_are_in_order
