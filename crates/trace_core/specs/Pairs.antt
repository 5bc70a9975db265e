-- Related pairs of a site, from GS1 EPCIS 2.0, section 7.4 (core event types): an ObjectEvent with destinations ships its items, an
-- AggregationEvent with action ADD puts its children into its parent, with which they are shipped, and a TransformationEvent makes outputs
-- from inputs. Transformation events with equal transformationID are parts of one transformation.
use Rattle.std.specs.Prelude.{◌≡◌, ◌≢◌, ℕ, List, Option, Some, None, Any, Contains}
use Rattle.std.specs.List.Sorted.{IsStrictlySortedBy}
use Rattle.std.specs.declared.cmp.Ordering.{Ordering}
use Rattle.std.specs.Ordering.{nat_cmp, ordering_then}
use Rattle.std.specs.Cmp.Lexicographic.{slice_cmp}
use mathlib.Core.Logic.{◌⊎◌}
use Rattle.event_json.specs.Events.{Content}
use Rattle.event_json.specs.declared.bodies.Body.{Body}
use Rattle.event_json.specs.declared.bodies.Body.TheVariants.{Note, Ship, Make, Pack}
use Rattle.event_json.specs.declared.bodies.Action.TheVariants.{Add}
use Rattle.trace_core.specs.declared.pairs.Pair.{Pair}
use Rattle.trace_core.specs.Relations.{Reaches}
use Rattle.trace_core.specs.Sites.{SiteEvents}

-- by site, and then by item
abbrev pub pair_cmp : Pair → Pair → Ordering
pair_cmp p q = ordering_then (nat_cmp p.site q.site) (slice_cmp nat_cmp p.item q.item)

-- each pair is below those after it, so none comes twice
abbrev pub IsStrictlyAscending : List Pair → Type 0
IsStrictlyAscending pairs = IsStrictlySortedBy pair_cmp pairs

-- a shipment of the item to the site
abbrev pub Ships : List ℕ → ℕ → Body → Type 0
Ships item site (Note items) = ⊥
Ships item site (Ship items sites outside) = Contains items item × Contains sites site
Ships item site (Make id ins outs) = ⊥
Ships item site (Pack action parent children) = ⊥

-- the child was put into the parent
abbrev pub Packs : List ℕ → List ℕ → Body → Type 0
Packs p c (Note items) = ⊥
Packs p c (Ship items sites outside) = ⊥
Packs p c (Make id ins outs) = ⊥
Packs p c (Pack action parent children) = (action ≡ Add) × (parent ≡ Some p) × Contains children c

-- the item is an input of a transformation
abbrev pub TakesIn : List ℕ → Body → Type 0
TakesIn item (Note items) = ⊥
TakesIn item (Ship items sites outside) = ⊥
TakesIn item (Make id ins outs) = Contains ins item
TakesIn item (Pack action parent children) = ⊥

-- the item is an output of a transformation
abbrev pub GivesOut : List ℕ → Body → Type 0
GivesOut item (Note items) = ⊥
GivesOut item (Ship items sites outside) = ⊥
GivesOut item (Make id ins outs) = Contains outs item
GivesOut item (Pack action parent children) = ⊥

-- the id of a transformation, where it has one
abbrev pub make_id : Body → Option (List ℕ)
make_id (Note items) = None
make_id (Ship items sites outside) = None
make_id (Make id ins outs) = id
make_id (Pack action parent children) = None

-- both have this id
abbrev pub HaveOneId : Option (List ℕ) → Option (List ℕ) → Type 0
HaveOneId a b = (id : List ℕ) × (a ≡ Some id) × (b ≡ Some id)

-- one transformation: one event, or two of one transformationID
abbrev pub AreOneMake : Content → Content → Type 0
AreOneMake e f = (e ≡ f) ⊎ HaveOneId (make_id e.body) (make_id f.body)

-- one of the events put the child into the parent
abbrev pub Carries : List Content → List ℕ → List ℕ → Type 0
Carries events p c = Any (λ e. Packs p c e.body) events

-- the item itself, and every item at the end of a chain from parent to child, whatever the order of the events
abbrev pub IsCarriedWith : List Content → List ℕ → List ℕ → Type 0
IsCarriedWith events i j = Reaches (Carries events) i j

-- an item with which this one is carried was shipped to the site
abbrev pub IsSentTo : List Content → List ℕ → ℕ → Type 0
IsSentTo events item site = (carrier : List ℕ) × Any (λ e. Ships carrier site e.body) events × IsCarriedWith events carrier item

-- shipped: the pair is the item at another site, to which it was sent
abbrev pub IsShipped : SiteEvents → List ℕ → Pair → Type 0
IsShipped s item q = (q.site ≢ s.me) × (q.item ≡ item) × IsSentTo s.events item q.site

-- j is an output of a transformation of which i is an input
abbrev pub IsMadeOf : List Content → List ℕ → List ℕ → Type 0
IsMadeOf events i j = Any (λ e. TakesIn i e.body × Any (λ f. AreOneMake e f × GivesOut j f.body) events) events

-- made: the pair is at this site, and its item is made of the item
abbrev pub IsMade : SiteEvents → List ℕ → Pair → Type 0
IsMade s item q = (q.site ≡ s.me) × IsMadeOf s.events item q.item

-- the item at the site is related to the pair
abbrev pub IsRelated : SiteEvents → List ℕ → Pair → Type 0
IsRelated s item q = IsShipped s item q ⊎ IsMade s item q
