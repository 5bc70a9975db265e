use Rattle.std.proofs.Common.{◌+◌, cond, length}
use Rattle.trace_core.specs.Chains.{sites_at}
use Rattle.gap_core.proofs.WideSearch.{Stands}
use Rattle.gap_core.proofs.wide_reach.wide_reach.Given as goal

-- what was found so far, and where the search goes on
abbrev pub invariant-loop-more : goal.invariant-loop-more
invariant-loop-more l = Stands (sites_at l.sites) l.root l.reached l.steps.items l.roots.items l.more

abbrev pub decreases-loop-more : goal.decreases-loop-more
decreases-loop-more l = length l.steps.items + cond l.more 1 0
