use Rattle.trace_core.specs.Chains.{Related}
use Rattle.trace_core.proofs.ChainLaws.{reaches_step}
use Rattle.trace_core.proofs.laws.reach_is_closed.Goals as goal

pub returns : goal.returns
returns c = λ sites root p q. reaches_step (Related sites) root p q
