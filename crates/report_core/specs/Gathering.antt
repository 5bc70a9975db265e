-- How shipments are gathered into a set.
use Rattle.std.specs.Prelude.{◌≡◌, ◌⊎◌, ◌↔◌, ℕ, ◌<◌, IsTrue, List, Some, get_or, slice_get, Contains}
use Rattle.std.specs.BTreeMap.{get}
use Rattle.std.specs.BTreeSet.{BTreeSet, contains}
use Rattle.event_json.specs.Events.{Content}
use Rattle.event_json.specs.declared.bodies.Body.{Body}
use Rattle.event_json.specs.declared.bodies.Body.TheVariants.{Note, Ship, Make, Pack}
use Rattle.frame_core.specs.Numbers.{Recall}
use Rattle.trace_core.specs.Pairs.{IsCarriedWith}
use Rattle.trace_core.specs.declared.pairs.Pair.{Pair}
use Rattle.site_core.specs.ItemSets.{Items, item_cmp}
use Rattle.site_core.specs.ItemSets as set
use Rattle.site_core.specs.Quarantines.{items_under}
use Rattle.site_core.specs.Records.{Record}
use Rattle.site_recovery.specs.Looks.{World}
use Rattle.report_core.specs.Destinations.{outside_cmp}
use Rattle.report_core.specs.Outside.{ShipsOut}
use Rattle.report_core.specs.Sources.{Index, or_no_places}
use Rattle.report_core.specs.declared.makers.EventPlace.{EventPlace}
use Rattle.report_core.specs.declared.outside.OutsideShipment.{OutsideShipment}

abbrev pub Found : Type 0
Found = BTreeSet OutsideShipment

abbrev pub IsIn : Found → OutsideShipment → Type 0
IsIn found x = IsTrue (contains outside_cmp found x)

-- just those that P tells are added
abbrev pub Adds : Found → Found → (OutsideShipment → Type 0) → Type 0
Adds old new P = (x : OutsideShipment) → IsIn new x ↔ (IsIn old x ⊎ P x)

-- one of the list says it
abbrev pub OneTells : {Y : Type 0} → List Y → (Y → OutsideShipment → Type 0) → OutsideShipment → Type 0
OneTells {Y} ys P x = (y : Y) × Contains ys y × P y x

-- the item went from the site to the destination
abbrev pub Goes : ℕ → List ℕ → List ℕ → OutsideShipment → Type 0
Goes site item destination x = record { site = site; item = item; destination = destination } ≡ x

-- the event ships, and the item went to one of its destinations
abbrev pub BodyTells : ℕ → List ℕ → Body → OutsideShipment → Type 0
BodyTells site item (Note items) x = ⊥
BodyTells site item (Ship items sites outside) x = OneTells outside (Goes site item) x
BodyTells site item (Make id ins outs) x = ⊥
BodyTells site item (Pack action parent children) x = ⊥

-- so for the event at the place
abbrev pub PlaceTells : List Content → ℕ → List ℕ → EventPlace → OutsideShipment → Type 0
PlaceTells events site item place x = (e : Content) × (slice_get events place.event ≡ Some e) × BodyTells site item e.body x

-- so for one of the places that stand under the item of the pair, which carries this item
abbrev pub CarrierTells : List Content → Index → ℕ → List ℕ → Pair → OutsideShipment → Type 0
CarrierTells events shipments site item carrier x = OneTells (or_no_places (get item_cmp shipments carrier.item)) (PlaceTells events site item) x

-- one of the events ships something to the destination that the item is carried with
abbrev pub WentOutBy : List Content → List ℕ → List ℕ → Type 0
WentOutBy events item destination =
    (carrier : List ℕ) × ((e : Content) × Contains events e × ShipsOut carrier destination e.body) × IsCarriedWith events carrier item

-- the item went out of the site
abbrev pub ItemTells : List Content → ℕ → List ℕ → OutsideShipment → Type 0
ItemTells events site item x = (x.site ≡ site) × (x.item ≡ item) × WentOutBy events item x.destination

-- the site shipped one of the items, or what it lies in
abbrev pub SiteTells : Items → Record → OutsideShipment → Type 0
SiteTells wanted r x = (x.site ≡ r.engagement.me) × IsTrue (set.contains wanted x.item) × WentOutBy r.captured.events x.item x.destination

-- so for the items that the site holds under the recall
abbrev pub RecordTells : Recall → Record → OutsideShipment → Type 0
RecordTells recall r x = SiteTells (items_under r.quarantine recall) r x

-- the set of the pair's site has its item
abbrev pub IsAmong : List Items → Pair → Type 0
IsAmong sets p = IsTrue (set.contains (get_or sets p.site set.empty) p.item)

-- one of the first sites tells it of the items of its set
abbrev pub FirstTell : World → List Items → ℕ → OutsideShipment → Type 0
FirstTell W sets count x = (k : ℕ) × (k < count) × SiteTells (get_or sets k set.empty) (W k) x
