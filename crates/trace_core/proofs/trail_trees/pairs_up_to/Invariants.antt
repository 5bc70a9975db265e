use Rattle.trace_core.proofs.TrailTrees.{IsRest}
use Rattle.trace_core.proofs.trail_trees.pairs_up_to.Given as goal

-- those from the place on
abbrev pub invariant-loop-place : goal.invariant-loop-place
invariant-loop-place l = IsRest l.steps l.fn.last l.place l.pairs.items

abbrev pub decreases-loop-place : goal.decreases-loop-place
decreases-loop-place l = l.place
