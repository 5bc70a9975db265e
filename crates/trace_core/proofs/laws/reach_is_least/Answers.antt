use Rattle.std.proofs.Common.{IsTrue}
use Rattle.trace_core.specs.Chains.{Related}
use Rattle.trace_core.proofs.ChainLaws.{reached_holds}
use Rattle.trace_core.proofs.laws.reach_is_least.Goals as goal

pub returns : goal.returns
returns c = λ sites root is_inside starts closed p reached. reached_holds (Related sites) (λ q. IsTrue (is_inside q)) closed root p reached starts
