-- The events behind the steps of trails, and behind what left the traced sites, that are told beside a report or a trace.
use Rattle.std.specs.Prelude.{◌≡◌, Bool, true, false, if◌then◌else◌, List, Option, Some, None}
use Rattle.std.specs.Global.{Global}
use Rattle.std.specs.declared.vec.Vec.{Vec}
use Rattle.report_core.specs.OutsideEvents.{AreToldOutside}
use Rattle.report_core.specs.TrailEvents.{AreToldAlong}
use Rattle.report_core.specs.declared.outside.OutsideShipment.{OutsideShipment}
use Rattle.report_core.specs.declared.trail_events.ShownSteps.{ShownSteps}
use Rattle.report_core.specs.declared.trail_events.ShownSteps.TheVariants.{Each, First, Last}
use Rattle.report_core.specs.declared.trail_events.StepEvents.{StepEvents}
use Rattle.report_core.specs.declared.with_events.ShownEvents.{ShownEvents}
use Rattle.recall_outcomes.specs.declared.outcomes.Ways.{Ways}
use Rattle.recall_outcomes.specs.declared.outcomes.Ways.TheVariants.{Trails, Steps}
use Rattle.site_core.specs.Records.{Record}
use Rattle.site_recovery.specs.Laws.{captured_of}
use Rattle.trace_core.specs.declared.pairs.Pair.{Pair}

-- one step of a trail is told, not all of it
abbrev pub is_brief : Ways → Bool
is_brief Trails = false
is_brief Steps = true

-- the steps that are told of a trail that leads to a pair: in brief the last one
abbrev pub steps_to : Ways → ShownSteps
steps_to ways = if is_brief ways then Last else Each

-- and of one that leads from a pair: in brief the first one
abbrev pub steps_from : Ways → ShownSteps
steps_from ways = if is_brief ways then First else Each

-- where it was asked for them, the events are told along each trail, by what the sites captured; else none are
abbrev pub TellsEvents : List Record → Bool → ShownSteps → List (List Pair) → Option (Vec (List StepEvents) Global) → Type 0
TellsEvents records asked shown trails None = asked ≡ false
TellsEvents records asked shown trails (Some told) = (asked ≡ true) × AreToldAlong (captured_of records) shown trails told.items

-- so of a report or of a trace to where an item went, and for each shipment out of the traced sites what shows it
abbrev pub TellsShown : List Record → Bool → ShownSteps → List (List Pair) → List OutsideShipment → Option ShownEvents → Type 0
TellsShown records asked shown trails outside None = asked ≡ false
TellsShown records asked shown trails outside (Some told) =
    (asked ≡ true) × AreToldAlong (captured_of records) shown trails told.steps.items × AreToldOutside (captured_of records) outside told.outside
