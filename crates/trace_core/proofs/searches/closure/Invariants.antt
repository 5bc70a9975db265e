use Rattle.std.proofs.Common.{◌-◌, ◌^◌}
use Rattle.trace_core.proofs.NodeSteps.{CountsLooks, Searching}
use Rattle.trace_core.proofs.searches.closure.Given as goal

abbrev pub invariant-loop-place : goal.invariant-loop-place
invariant-loop-place g l = record {
  searches : Searching (g.R.Relation.stands l.relation) (g.R.Relation.relates l.relation) (g.R.Relation.gives l.relation) (g.R.Relation.has_seen l.relation) l.starts l.seen l.nodes l.place;
  counts : CountsLooks (g.R.Relation.bounds_looks l.relation) (g.R.Relation.outputs l.relation) (g.R.Relation.unseen l.relation l.seen) l.initial.looks l.looks l.place;
}

-- how many places may be left
abbrev pub decreases-loop-place : goal.decreases-loop-place
decreases-loop-place g l = 2 ^ 64 - l.place
