use Rattle.trace_core.proofs.PairLaws.{others_add_nothing}
use Rattle.trace_core.proofs.laws.others_add_nothing.Goals as goal

pub returns : goal.returns
returns c = others_add_nothing
