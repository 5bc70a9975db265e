use Rattle.trace_core.proofs.PairLaws.{pack_relates}
use Rattle.trace_core.proofs.laws.pack_relates.Goals as goal

pub returns : goal.returns
returns c = pack_relates
