-- The captured event behind a row, and what its item left in.
use Rattle.std.specs.Prelude.{if◌then◌else◌, ◌-◌, ℕ, Bool, List, [], ◌∷◌, Option, Some, None, bytes_eq, length, option_map, slice_get}
use Rattle.std.specs.Option.{option_and_then, unwrap_or}
use Rattle.report_core.specs.declared.outside_events.OutsideEvent.{OutsideEvent}
use Rattle.report_core.specs.declared.trail_events.CapturedEvent.{CapturedEvent}
use Rattle.report_core.specs.declared.trail_events.StepEvents.{StepEvents}
use Rattle.report_core.specs.declared.trail_events.StepEvents.TheVariants.{Shipped, Made}
use Rattle.report_forms.specs.Accounts.{OutsidePart, Part}
use Rattle.report_forms.specs.declared.accounts.Way.{Way}
use Rattle.report_forms.specs.declared.accounts.Way.TheVariants.{Unknown, From, To}

-- the first event of a step: of a transformation the one that takes the item in
abbrev pub first_event : StepEvents → CapturedEvent
first_event (Shipped event packings) = event
first_event (Made taken given) = taken

-- of the steps that are told the one between a pair and the pair beside it: the last one of a trail to the pair, the first one of a trail from it
abbrev pub step_beside : Way → List StepEvents → Option StepEvents
step_beside Unknown steps = None
step_beside (From trail) steps = slice_get steps (length steps - 1)
step_beside (To trail) steps = slice_get steps 0

-- the event of that step
abbrev pub event_beside : Part → Option CapturedEvent
event_beside part = option_map first_event (option_and_then (step_beside part.way) part.events)

-- the event of a shipment that left
abbrev pub event_outside : OutsidePart → Option CapturedEvent
event_outside x = option_map (λ (told : OutsideEvent). told.event) x.event

-- its eventID and its time, empty where there is none
abbrev pub id_of : Option CapturedEvent → List ℕ
id_of event = unwrap_or (option_and_then (λ e. e.id) event) []

abbrev pub time_of : Option CapturedEvent → List ℕ
time_of event = unwrap_or (option_and_then (λ e. e.time) event) []

-- the container that an item left in, empty where it left by itself
abbrev pub carrier_of : List ℕ → Option OutsideEvent → List ℕ
carrier_of item None = []
carrier_of item (Some told) = if bytes_eq told.carrier item then [] else told.carrier

-- fields that are there where the events are told
abbrev pub if_told : Bool → List (List ℕ) → List (List ℕ)
if_told told fields = if told then fields else []

-- a pair, a shipment to a place that is no traced site, and a pair that no pair is related to
abbrev pub part_evidence : Bool → Part → List (List ℕ)
part_evidence told part = if_told told (id_of (event_beside part) ∷ time_of (event_beside part) ∷ [] ∷ [])

abbrev pub outside_evidence : Bool → OutsidePart → List (List ℕ)
outside_evidence told x = if_told told (id_of (event_outside x) ∷ time_of (event_outside x) ∷ carrier_of x.shipment.item x.event ∷ [])

abbrev pub origin_evidence : Bool → List (List ℕ)
origin_evidence told = if_told told ([] ∷ [] ∷ [] ∷ [])
