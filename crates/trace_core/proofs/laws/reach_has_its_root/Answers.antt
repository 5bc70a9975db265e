use Rattle.trace_core.specs.Chains.{Related}
use Rattle.trace_core.proofs.ChainLaws.{reaches_itself}
use Rattle.trace_core.proofs.laws.reach_has_its_root.Goals as goal

pub returns : goal.returns
returns c = λ sites root. reaches_itself (Related sites) root
