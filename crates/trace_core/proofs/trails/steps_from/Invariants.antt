use Rattle.std.proofs.Common.{◌-◌, ◌^◌}
use Rattle.trace_core.proofs.TrailSteps.{FollowsGroups}
use Rattle.trace_core.proofs.trails.steps_from.Given as goal

abbrev pub invariant-loop-place : goal.invariant-loop-place
invariant-loop-place g l = FollowsGroups (g.R.Adjacency.relates l.relation) l.root (g.R.Adjacency.gives l.relation) l.seen l.place l.steps

-- how many places may be left
abbrev pub decreases-loop-place : goal.decreases-loop-place
decreases-loop-place g l = 2 ^ 64 - l.place
