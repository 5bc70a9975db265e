use Rattle.trace_core.proofs.PairLaws.{pack_names}
use Rattle.trace_core.proofs.laws.pack_names.Goals as goal

pub returns : goal.returns
returns c = pack_names
