use Rattle.std.specs.List.{Contains}
use Rattle.trace_core.specs.Chains.{Related}
use Rattle.trace_core.proofs.ChainLaws.{reached_holds}
use Rattle.trace_core.proofs.laws.reach_is_in_closed_list.Goals as goal

pub returns : goal.returns
returns c = λ sites root pairs starts closed p reached. reached_holds (Related sites) (Contains pairs) closed root p reached starts
