-- From which pairs a pair comes: from the item at a site that sent it, and from what was made into it.
use Rattle.std.specs.Prelude.{◌≡◌, ◌↔◌, ◌⊎◌, ⊤, ℕ, List, [], Option, None, Some, Any, Contains, slice_get}
use Rattle.std.specs.Borrow.{Bor}
use Rattle.std.specs.BTreeMap.{BTreeMap, get}
use Rattle.std.specs.BTreeSet.{BTreeSet}
use Rattle.event_json.specs.Events.{Content}
use Rattle.event_json.specs.declared.bodies.Body.{Body}
use Rattle.event_json.specs.declared.bodies.Body.TheVariants.{Note, Ship, Make, Pack}
use Rattle.trace_core.specs.Groups.{IsSeen}
use Rattle.trace_core.specs.Pairs.{TakesIn, GivesOut, AreOneMake, IsShipped, Packs}
use Rattle.trace_core.specs.Searches.{IsFound}
use Rattle.trace_core.specs.Sites.{SiteEvents}
use Rattle.trace_core.specs.declared.groups.Group.{Group}
use Rattle.trace_core.specs.declared.pairs.Pair.{Pair}
use Rattle.site_core.specs.ItemSets.{item_cmp}
use Rattle.report_core.specs.declared.makers.EventPlace.{EventPlace}
use Rattle.report_core.specs.declared.makers.Noting.{Noting}
use Rattle.report_core.specs.declared.makers.Noting.TheVariants.{TakenIn, GivenOut, Sent, PutIn}

-- just those of P are added
abbrev pub AddsTo : {X : Type 0} → (X → Type 0) → (X → Type 0) → (X → Type 0) → Type 0
AddsTo {X} Old New P = (x : X) → New x ↔ (Old x ⊎ P x)

-- so to a list
abbrev pub AddsToList : {X : Type 0} → List X → List X → (X → Type 0) → Type 0
AddsToList old new P = AddsTo (Contains old) (Contains new) P

-- it is so by one of the list
abbrev pub ByOne : {X Y : Type 0} → List Y → (Y → X → Type 0) → X → Type 0
ByOne {X} {Y} ys P x = (y : Y) × Contains ys y × P y x

-- the places of events, by an item
abbrev pub Index : Type 0
Index = BTreeMap (List ℕ) (List EventPlace)

-- the places that are looked up, none where there are none
abbrev pub or_no_places : Option (List EventPlace) → List EventPlace
or_no_places None = []
or_no_places (Some places) = places

-- the place stands under the item
abbrev pub Keeps : Index → List ℕ × EventPlace → Type 0
Keeps index m = Contains (or_no_places (get item_cmp index m.0)) m.1

-- a shipment of the item itself, to wherever
abbrev pub ShipsItself : List ℕ → Body → Type 0
ShipsItself item (Note items) = ⊥
ShipsItself item (Ship items sites outside) = Contains items item
ShipsItself item (Make id ins outs) = ⊥
ShipsItself item (Pack action parent children) = ⊥

-- a packing that puts the item into something
abbrev pub PutsIn : List ℕ → Body → Type 0
PutsIn item body = (parent : List ℕ) × Packs parent item body

-- an event is noted under the item
abbrev pub Notes : Noting → List ℕ → Body → Type 0
Notes TakenIn item body = TakesIn item body
Notes GivenOut item body = GivesOut item body
Notes Sent item body = ShipsItself item body
Notes PutIn item body = PutsIn item body

-- an event that N tells of an item, and the item is one of these
abbrev pub Among : BTreeSet (List ℕ) → (List ℕ → Body → Type 0) → List ℕ → Body → Type 0
Among items N item body = IsFound item_cmp items item × N item body

-- an event is noted under the item, which is one of those that are wanted, any one where none are named
abbrev pub NotesOf : Option (Bor (BTreeSet (List ℕ))) → Noting → List ℕ → Body → Type 0
NotesOf None noting item body = Notes noting item body
NotesOf (Some wanted) noting item body = Among wanted.now (Notes noting) item body

-- the item is one of those that are wanted
abbrev pub IsWanted : Option (Bor (BTreeSet (List ℕ))) → List ℕ → Type 0
IsWanted None item = ⊤
IsWanted (Some wanted) item = IsFound item_cmp wanted.now item

-- at the place stands an event that N tells of the item
abbrev pub IsNotedAt : (List ℕ → Body → Type 0) → List Content → List ℕ → ℕ → Type 0
IsNotedAt N events item place = (e : Content) × (slice_get events place ≡ Some e) × N item e.body

-- the site at this place among all has one there
abbrev pub SiteNotes : (List ℕ → Body → Type 0) → SiteEvents → ℕ → List ℕ × EventPlace → Type 0
SiteNotes N s number m = (number ≡ m.1.site) × IsNotedAt N s.events m.0 m.1.event

-- one of the sites has
abbrev pub SitesNote : (List ℕ → Body → Type 0) → List SiteEvents → List ℕ × EventPlace → Type 0
SitesNote N sites m = (s : SiteEvents) × (slice_get sites m.1.site ≡ Some s) × IsNotedAt N s.events m.0 m.1.event

-- under each item stand the places of the events that N tells of it, no more and no fewer
abbrev pub ArePlaces : (List ℕ → Body → Type 0) → Index → List SiteEvents → Type 0
ArePlaces N index sites = (m : List ℕ × EventPlace) → Keeps index m ↔ SitesNote N sites m

-- so for one site alone, which stands at this place among all
abbrev pub AreSitePlaces : (List ℕ → Body → Type 0) → SiteEvents → ℕ → Index → Type 0
AreSitePlaces N s number index = (m : List ℕ × EventPlace) → Keeps index m ↔ SiteNotes N s number m

-- so under one item, as to the places of that site
abbrev pub AreItemPlaces : (List ℕ → Body → Type 0) → List Content → ℕ → Index → List ℕ → Type 0
AreItemPlaces N events number index item = (p : EventPlace) → number ≡ p.site → Keeps index (item, p) ↔ IsNotedAt N events item p.event

-- so under each item
abbrev pub AreOwnPlaces : (List ℕ → Body → Type 0) → List Content → ℕ → Index → Type 0
AreOwnPlaces N events number index = (item : List ℕ) → AreItemPlaces N events number index item

-- those of the transformations that give it out
abbrev pub AreMakers : Index → List SiteEvents → Type 0
AreMakers index sites = ArePlaces GivesOut index sites

-- the item of the pair is an input, at the pair's site, of the event at the place
abbrev pub IsInputAt : SiteEvents → ℕ → Pair → Type 0
IsInputAt s place q = (q.site ≡ s.me) × (e : Content) × (slice_get s.events place ≡ Some e) × TakesIn q.item e.body

-- of that event, or of one that is a part of the same transformation
abbrev pub GoesInto : SiteEvents → ℕ → Pair → Type 0
GoesInto s place q =
    (q.site ≡ s.me) × (f : Content) × (slice_get s.events place ≡ Some f) × Any (λ e. TakesIn q.item e.body × AreOneMake e f) s.events

-- it goes into one of the transformations that were seen
abbrev pub GoesIntoSeen : List SiteEvents → BTreeSet Group → Pair → Type 0
GoesIntoSeen sites seen q =
    (k : ℕ) × (s : SiteEvents) × (slice_get sites k ≡ Some s) × (first : ℕ) × IsSeen seen k first × GoesInto s first q

-- it goes into the transformation at the place, if that is one of this site
abbrev pub GoesIntoAt : List SiteEvents → ℕ → EventPlace → Pair → Type 0
GoesIntoAt sites site place q = (s : SiteEvents) × (slice_get sites place.site ≡ Some s) × (s.me ≡ site) × GoesInto s place.event q

-- the site sent the pair, and the other one is its item there
abbrev pub SendsTo : Pair → SiteEvents → Pair → Type 0
SendsTo p s q = (s.me ≡ q.site) × IsShipped s q.item p
