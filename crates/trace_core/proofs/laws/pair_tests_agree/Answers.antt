use Rattle.trace_core.proofs.PairTestsDecide.{related_decides}
use Rattle.trace_core.proofs.laws.pair_tests_agree.Goals as goal

pub returns : goal.returns
returns c = related_decides
