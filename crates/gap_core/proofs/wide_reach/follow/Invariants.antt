use Rattle.std.proofs.Common.{length}
use Rattle.gap_core.proofs.WideSearch.{Following}
use Rattle.gap_core.proofs.wide_reach.follow.Given as goal

-- the last steps are followed, or left
abbrev pub invariant-loop-step : goal.invariant-loop-step
invariant-loop-step l = Following l.reached l.fn.steps.items l.fn.roots.items l.steps.items l.left.items l.roots.items l.more

abbrev pub decreases-loop-step : goal.decreases-loop-step
decreases-loop-step l = length l.steps.items
