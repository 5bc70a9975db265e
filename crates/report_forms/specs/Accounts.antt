-- A report or a trace in parts.
use Rattle.std.specs.Prelude.{Bool, List, [], ◌∷◌, Option, Some, None, drop, map, option_map, slice_get}
use Rattle.std.specs.Option.{is_some, unwrap_or}
use Rattle.frame_core.specs.Numbers.{Recall}
use Rattle.report_core.specs.declared.outside.OutsideShipment.{OutsideShipment}
use Rattle.report_core.specs.declared.outside_events.OutsideEvent.{OutsideEvent}
use Rattle.report_core.specs.declared.reports.RecallReport.{RecallReport}
use Rattle.report_core.specs.declared.traces.BackTrace.{BackTrace}
use Rattle.report_core.specs.declared.traces.Trace.{Trace}
use Rattle.report_core.specs.declared.trail_events.StepEvents.{StepEvents}
use Rattle.report_core.specs.declared.with_events.ShownEvents.{ShownEvents}
use Rattle.trace_core.specs.Trails.{before_last}
use Rattle.trace_core.specs.declared.pairs.Pair.{Pair}
use Rattle.report_forms.specs.declared.accounts.AnyTrails.{AnyTrails}
use Rattle.report_forms.specs.declared.accounts.AnyTrails.TheVariants.{Held, Led, Leading}
use Rattle.report_forms.specs.declared.accounts.OutsidePart.{OutsidePart as RustOutsidePart}
use Rattle.report_forms.specs.declared.accounts.Part.{Part as RustPart}
use Rattle.report_forms.specs.declared.accounts.Title.{Title}
use Rattle.report_forms.specs.declared.accounts.Title.TheVariants as titles
use Rattle.report_forms.specs.declared.accounts.Way.{Way}
use Rattle.report_forms.specs.declared.accounts.Way.TheVariants.{Unknown, From, To}

-- a pair, how it is reached, and the events of the steps that are told, where they are
pub record Part : Type 0 where
  pub pair : Pair
  pub way : Way
  pub events : Option (List StepEvents)

-- a shipment out of the traced sites, and what shows it, where that is told
pub record OutsidePart : Type 0 where
  pub shipment : OutsideShipment
  pub event : Option OutsideEvent

-- `told`: whether the events are told
pub record Account : Type 0 where
  pub title : Title
  pub root : Pair
  pub told : Bool
  pub parts : List Part
  pub outside : List OutsidePart
  pub origins : List Pair

-- what left the traced sites
abbrev pub shipments_of : Account → List OutsideShipment
shipments_of a = map (λ (x : OutsidePart). x.shipment) a.outside

-- the pairs of the trail, where there is one
abbrev pub way_pairs : Way → Option (List Pair)
way_pairs Unknown = None
way_pairs (From trail) = Some trail
way_pairs (To trail) = Some trail

-- the pair beside it on the trail
abbrev pub way_beside : Way → Option Pair
way_beside Unknown = None
way_beside (From trail) = before_last trail
way_beside (To trail) = slice_get trail 1

-- Each pair has what stands at its place in the other two lists.
abbrev pub parts_of : List Pair → List Way → List (List StepEvents) → List Part
parts_of [] ways events = []
parts_of (p ∷ pairs) ways events =
    record { pair = p; way = unwrap_or (slice_get ways 0) Unknown; events = slice_get events 0 } ∷ parts_of pairs (drop 1 ways) (drop 1 events)

-- So has each shipment.
abbrev pub outside_parts : List OutsideShipment → List OutsideEvent → List OutsidePart
outside_parts [] told = []
outside_parts (x ∷ xs) told = record { shipment = x; event = slice_get told 0 } ∷ outside_parts xs (drop 1 told)

-- the events of the steps and those behind the shipments; none where they aren't told
abbrev pub steps_in : Option ShownEvents → List (List StepEvents)
steps_in None = []
steps_in (Some events) = events.steps.items

abbrev pub outside_in : Option ShownEvents → List OutsideEvent
outside_in None = []
outside_in (Some events) = events.outside

-- by a trail from the root, where there is one
abbrev pub held_way : Option (List Pair) → Way
held_way None = Unknown
held_way (Some trail) = From trail

abbrev pub account_of : Title → Pair → Bool → List Part → List OutsidePart → List Pair → Account
account_of title root told parts outside origins = record { title = title; root = root; told = told; parts = parts; outside = outside; origins = origins }

abbrev pub report_account : Recall → RecallReport → Option ShownEvents → Account
report_account r report events =
    account_of (titles.Recall r report.ended) report.root (is_some events) (parts_of report.pairs (map held_way report.trails) (steps_in events)) (outside_parts report.outside (outside_in events)) []

abbrev pub trace_account : Trace → Option ShownEvents → Account
trace_account trace events =
    account_of titles.Forward trace.root (is_some events) (parts_of trace.pairs (map From trace.trails) (steps_in events)) (outside_parts trace.outside (outside_in events)) []

-- The events of each trail, of which there is one at least, the root's own; none where they aren't told.
abbrev pub back_account : BackTrace → List (List StepEvents) → Account
back_account trace events = account_of titles.Back trace.root (is_some (slice_get events 0)) (parts_of trace.pairs (map To trace.trails) events) [] trace.origins

-- ---- of the structs

abbrev pub ways_in : AnyTrails → List Way
ways_in (Held trails) = map held_way trails.now
ways_in (Led trails) = map From trails.now
ways_in (Leading trails) = map To trails.now

abbrev pub part_of : RustPart → Part
part_of p = record { pair = p.pair.now; way = p.way; events = option_map (λ s. s.now) p.events }

abbrev pub outside_part_of : RustOutsidePart → OutsidePart
outside_part_of p = record { shipment = p.shipment.now; event = option_map (λ e. e.now) p.event }
