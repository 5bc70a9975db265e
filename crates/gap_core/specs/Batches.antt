-- The shipments of a site, by where they go.
use Rattle.std.specs.Prelude.{◌≡◌, ◌↔◌, ◌⊎◌, ℕ, List, [], Option, None, Some, Contains, slice_get}
use Rattle.std.specs.BTreeMap.{BTreeMap, get}
use mathlib.Core.Logic.{inr}
use Rattle.event_json.specs.Events.{Content}
use Rattle.trace_core.specs.Gaps.{Place, IsElsewhere}
use Rattle.trace_core.specs.Sites.{SiteEvents}
use Rattle.gap_core.specs.Shipments.{ArePlacesTo, GoesAt, GoesOutside}
use Rattle.gap_core.specs.Sources.{item_cmp}

-- the events, by the text of a place outside
abbrev pub Outside : Type 0
Outside = BTreeMap (List ℕ) (List ℕ)

abbrev pub or_no_places : Option (List ℕ) → List ℕ
or_no_places None = []
or_no_places (Some places) = places

-- the event stands under the text
abbrev pub KeepsPlace : Outside → List ℕ × ℕ → Type 0
KeepsPlace outside m = Contains (or_no_places (get item_cmp outside m.0)) m.1

-- the event at the place ships to the place outside
abbrev pub IsOutsideAt : List Content → ℕ → List ℕ × ℕ → Type 0
IsOutsideAt events place m = (e : Content) × (slice_get events place ≡ Some e) × GoesOutside m.0 e.body × (place ≡ m.1)

-- under each text just the shipments there
abbrev pub AreOutside : List Content → Outside → Type 0
AreOutside events outside = (m : List ℕ × ℕ) → KeepsPlace outside m ↔ GoesAt events (inr m.0) m.1

-- the list of the shipments to a place elsewhere is there now, where there are any, and no other list is new
pub record AddsBatch (s : SiteEvents) (to : Place) (old new : List (List ℕ)) : Type 0 where
  pub kept : (places : List ℕ) → Contains old places → Contains new places
  pub sound : (places : List ℕ) → Contains new places → Contains old places ⊎ (IsElsewhere s to × ArePlacesTo s.events to places)
  pub complete : IsElsewhere s to → (k : ℕ) → GoesAt s.events to k → (places : List ℕ) × Contains new places × ArePlacesTo s.events to places

-- so for each place outside
pub record AddsOutside (events : List Content) (old new : List (List ℕ)) : Type 0 where
  pub kept : (places : List ℕ) → Contains old places → Contains new places
  pub sound : (places : List ℕ) → Contains new places → Contains old places ⊎ ((text : List ℕ) × ArePlacesTo events (inr text) places)
  pub complete : (text : List ℕ) (k : ℕ) → GoesAt events (inr text) k → (places : List ℕ) × Contains new places × ArePlacesTo events (inr text) places

-- so for each place elsewhere
pub record AreAllBatches (s : SiteEvents) (batches : List (List ℕ)) : Type 0 where
  pub sound : (places : List ℕ) → Contains batches places → (to : Place) × IsElsewhere s to × ArePlacesTo s.events to places
  pub complete : (to : Place) → IsElsewhere s to → (k : ℕ) → GoesAt s.events to k
      → (places : List ℕ) × Contains batches places × ArePlacesTo s.events to places
