-- What a site ships, and by which of its events.
use Rattle.std.specs.Prelude.{◌≡◌, ◌↔◌, ℕ, List, [], Some, Contains, slice_get}
use mathlib.Core.Logic.{inl, inr}
use Rattle.event_json.specs.Events.{Content}
use Rattle.event_json.specs.declared.bodies.Body.{Body}
use Rattle.event_json.specs.declared.bodies.Body.TheVariants.{Note, Ship, Make, Pack}
use Rattle.trace_core.specs.Gaps.{Place}

-- a shipment to a place outside
abbrev pub GoesOutside : List ℕ → Body → Type 0
GoesOutside text (Note items) = ⊥
GoesOutside text (Ship items sites outside) = Contains outside text
GoesOutside text (Make id ins outs) = ⊥
GoesOutside text (Pack action parent children) = ⊥

-- a shipment to a site
abbrev pub GoesToSite : ℕ → Body → Type 0
GoesToSite site (Note items) = ⊥
GoesToSite site (Ship items sites outside) = Contains sites site
GoesToSite site (Make id ins outs) = ⊥
GoesToSite site (Pack action parent children) = ⊥

-- a shipment to the place
abbrev pub GoesTo : Place → Body → Type 0
GoesTo (inl site) body = GoesToSite site body
GoesTo (inr text) body = GoesOutside text body

-- the items of a shipment
abbrev pub shipped_in : Body → List (List ℕ)
shipped_in (Note items) = []
shipped_in (Ship items sites outside) = items
shipped_in (Make id ins outs) = []
shipped_in (Pack action parent children) = []

-- at the place of an event stands a shipment there
abbrev pub GoesAt : List Content → Place → ℕ → Type 0
GoesAt events to place = (e : Content) × (slice_get events place ≡ Some e) × GoesTo to e.body

-- so at this place
abbrev pub IsPlaceTo : List Content → Place → ℕ → ℕ → Type 0
IsPlaceTo events to place k = (place ≡ k) × GoesAt events to place

-- just the places of the shipments there
abbrev pub ArePlacesTo : List Content → Place → List ℕ → Type 0
ArePlacesTo events to places = (k : ℕ) → Contains places k ↔ GoesAt events to k

-- the event at the place ships the item
abbrev pub IsShippedOnce : List Content → ℕ → List ℕ → Type 0
IsShippedOnce events place item = (e : Content) × (slice_get events place ≡ Some e) × Contains (shipped_in e.body) item

-- one of the events at these places does
abbrev pub IsShippedAt : List Content → List ℕ → List ℕ → Type 0
IsShippedAt events places item = (k : ℕ) × Contains places k × IsShippedOnce events k item
