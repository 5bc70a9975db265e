use Rattle.std.proofs.Common.{◌-◌, ◌^◌}
use Rattle.trace_core.specs.Chains.{sites_at}
use Rattle.gap_core.specs.Inside.{IsPackedBySome}
use Rattle.gap_core.proofs.WalkSteps.{Walking}
use Rattle.gap_core.proofs.inside.walk.Given as goal

-- those before the place are followed
abbrev pub invariant-loop-place : goal.invariant-loop-place
invariant-loop-place l = Walking (IsPackedBySome (sites_at l.sites)) l.initial.found l.found l.place

-- how many places may be left
abbrev pub decreases-loop-place : goal.decreases-loop-place
decreases-loop-place l = 2 ^ 64 - l.place
