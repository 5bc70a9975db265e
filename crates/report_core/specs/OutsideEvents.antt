-- What shows that an item was shipped out of the traced sites (GS1 EPCIS 2.0, section 7.4): the first shipment of it, or of
-- what it lies in, to the destination, and what of that shipment it left with.
use Rattle.std.specs.Prelude.{◌≡◌, ℕ, List, Some, slice_get}
use Rattle.std.specs.List.{AllZip}
use Rattle.event_json.specs.Events.{Content}
use Rattle.trace_core.specs.Pairs.{IsCarriedWith}
use Rattle.trace_core.specs.Sites.{SiteEvents}
use Rattle.report_core.specs.Outside.{ShipsOut}
use Rattle.report_core.specs.TrailEvents.{IsCarrierBy, IsEventAt, IsFirst, StandsAt}
use Rattle.report_core.specs.declared.outside.OutsideShipment.{OutsideShipment}
use Rattle.report_core.specs.declared.outside_events.OutsideEvent.{OutsideEvent}

-- a shipment of the item, or of what it lies in, to the destination
abbrev pub ShipsOutAt : List Content → List ℕ → List ℕ → ℕ → Type 0
ShipsOutAt events item destination = StandsAt events (λ b. (carrier : List ℕ) × ShipsOut carrier destination b × IsCarriedWith events carrier item)

-- what the item left with by the shipment at the place: the item itself, where that is shipped, and else the first by key of
-- what is shipped that it lies in
abbrev pub IsCarrierAt : List Content → List ℕ → List ℕ → ℕ → List ℕ → Type 0
IsCarrierAt events item destination n carrier = IsCarrierBy events (λ c. ShipsOut c destination) item n carrier

-- the first such shipment, and what the item left with by it
abbrev pub ShowsOut : List Content → List ℕ → List ℕ → OutsideEvent → Type 0
ShowsOut events item destination x = (n : ℕ) × IsFirst (ShipsOutAt events item destination) n × IsEventAt events n x.event × IsCarrierAt events item destination n x.carrier

-- so for a shipment out of the traced sites, by the site of its number
abbrev pub TellsOutside : List SiteEvents → OutsideShipment → OutsideEvent → Type 0
TellsOutside sites x told = (s : SiteEvents) × (slice_get sites x.site ≡ Some s) × ShowsOut s.events x.item x.destination told

-- so for each of them, in their order
abbrev pub AreToldOutside : List SiteEvents → List OutsideShipment → List OutsideEvent → Type 0
AreToldOutside sites outside told = AllZip (TellsOutside sites) outside told
