use Rattle.trace_core.proofs.PairLaws.{joined_makes_relate}
use Rattle.trace_core.proofs.laws.joined_makes_relate.Goals as goal

pub returns : goal.returns
returns c = joined_makes_relate
