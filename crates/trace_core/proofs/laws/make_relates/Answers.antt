use Rattle.trace_core.proofs.PairLaws.{make_relates}
use Rattle.trace_core.proofs.laws.make_relates.Goals as goal

pub returns : goal.returns
returns c = make_relates
