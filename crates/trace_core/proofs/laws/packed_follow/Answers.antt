use Rattle.trace_core.proofs.PairLaws.{packed_follow}
use Rattle.trace_core.proofs.laws.packed_follow.Goals as goal

pub returns : goal.returns
returns c = packed_follow
