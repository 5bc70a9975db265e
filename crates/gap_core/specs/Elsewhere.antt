-- What a site sends to other places than itself.
use Rattle.std.specs.Prelude.{◌≡◌, ◌≢◌, ◌↔◌, ◌⊎◌, ℕ, List, Some, Contains, slice_get}
use Rattle.event_json.specs.declared.bodies.Body.{Body}
use Rattle.event_json.specs.declared.bodies.Body.TheVariants.{Note, Ship, Make, Pack}
use Rattle.trace_core.specs.Gaps.{Place, IsElsewhere, IsSent, by_known}
use Rattle.trace_core.specs.Sites.{SiteEvents}
use Rattle.gap_core.specs.Shipments.{GoesAt}

-- one of the sites is another one
abbrev pub HasOther : ℕ → List ℕ → Type 0
HasOther me sites = (site : ℕ) × Contains sites site × (site ≢ me)

-- a shipment to another site than this one, or to a place outside
abbrev pub GoesOn : ℕ → Body → Type 0
GoesOn me (Note items) = ⊥
GoesOn me (Ship items sites outside) = ((text : List ℕ) × Contains outside text) ⊎ HasOther me sites
GoesOn me (Make id ins outs) = ⊥
GoesOn me (Pack action parent children) = ⊥

-- the event at the place ships to a place that isn't the site itself
abbrev pub GoesElsewhere : SiteEvents → ℕ → Type 0
GoesElsewhere s place = (to : Place) × IsElsewhere s to × GoesAt s.events to place

-- so at this place
abbrev pub IsPlaceElsewhere : SiteEvents → ℕ → ℕ → Type 0
IsPlaceElsewhere s place k = (place ≡ k) × GoesElsewhere s place

-- just the places of such shipments
abbrev pub ArePlacesElsewhere : SiteEvents → List ℕ → Type 0
ArePlacesElsewhere s places = (k : ℕ) → Contains places k ↔ GoesElsewhere s k

-- the site of a place sent the item elsewhere, by what is known there
abbrev pub IsSentElsewhere : List SiteEvents → ℕ → List ℕ → Type 0
IsSentElsewhere sites at i = (s : SiteEvents) × (slice_get sites at ≡ Some s) × (to : Place) × IsElsewhere s to × IsSent (by_known sites) s i to
