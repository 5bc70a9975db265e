use Rattle.std.proofs.Common.{◌-◌, take}
use Rattle.std.specs.List.{AllZip}
use Rattle.report_core.specs.TrailEvents.{TellsStep, steps_of}
use Rattle.report_core.proofs.trail_events.told_of.Given as goal

-- the events of the steps so far
abbrev pub invariant-loop-place : goal.invariant-loop-place
invariant-loop-place l = AllZip (λ step. TellsStep l.relating.sites step.0 step.1) (take (l.place - 1) (steps_of l.pairs)) l.told.items
