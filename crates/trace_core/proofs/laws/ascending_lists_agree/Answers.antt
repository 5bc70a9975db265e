use Rattle.trace_core.proofs.PairOrder.{one_ascending}
use Rattle.trace_core.proofs.laws.ascending_lists_agree.Goals as goal

pub returns : goal.returns
returns c = one_ascending
