use Rattle.trace_core.proofs.Growing.{related_grows}
use Rattle.trace_core.specs.Chains.{Related}
use Rattle.trace_core.proofs.ChainLaws.{reach_widens}
use Rattle.trace_core.proofs.laws.reach_grows.Goals as goal

pub returns : goal.returns
returns c = λ old new zipped root p. reach_widens (Related old) (Related new) (related_grows old new zipped) root p
