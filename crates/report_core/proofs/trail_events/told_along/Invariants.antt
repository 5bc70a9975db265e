use Rattle.std.proofs.Common.{if◌then◌else◌, take}
use Rattle.report_core.specs.TrailEvents.{AreToldAlong}
use Rattle.report_core.specs.declared.trail_events.ShownSteps.TheVariants.{Each}
use Rattle.report_core.proofs.trail_events.told_along.Given as goal

-- the events of the trails so far
abbrev pub invariant-loop-place : goal.invariant-loop-place
invariant-loop-place g l =
    AreToldAlong l.relating.sites (if l.brief then g.T.ShownTrails.step l.trails else Each) (take l.place (g.T.ShownTrails.trails l.trails)) l.told.items
