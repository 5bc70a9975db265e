use Rattle.std.proofs.Common.{◌-◌, take}
use Rattle.std.specs.List.{All}
use Rattle.report_core.specs.FirstPlaces.{IsWantedStep, StayWanted}
use Rattle.report_core.specs.TrailEvents.{steps_of}
use Rattle.report_core.proofs.wanted_steps.add_steps.Given as goal

-- the steps so far are wanted, and what was before
abbrev pub invariant-loop-place : goal.invariant-loop-place
invariant-loop-place l = record {
  stay : StayWanted l.fn.wanted l.wanted;
  steps : All (λ step. IsWantedStep l.wanted step.0 step.1) (take (l.place - 1) (steps_of l.pairs));
}
