use Rattle.std.proofs.Common.{◌-◌, take}
use Rattle.std.specs.List.{AllZip}
use Rattle.report_core.specs.Packings.{TellsPut}
use Rattle.report_core.specs.TrailEvents.{steps_of}
use Rattle.report_core.proofs.packing_events.packings_along.Given as goal

-- the packings of the steps so far
abbrev pub invariant-loop-place : goal.invariant-loop-place
invariant-loop-place l = AllZip (TellsPut l.containers.site.now.events) (take (l.place - 1) (steps_of l.pairs)) l.told.items
