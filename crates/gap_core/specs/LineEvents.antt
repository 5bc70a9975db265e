-- Which events tell of a line: the first by which its container was packed, and the last by which it was shipped on. Where two sites have one
-- number, those of the first of them.
use Rattle.std.specs.Prelude.{◌≡◌, ◌≢◌, ◌↔◌, ◌<◌, ◌≤◌, ℕ, List, [], Option, None, Some, Contains, slice_get}
use Rattle.std.specs.BTreeMap.{BTreeMap, get}
use Rattle.event_json.specs.Events.{Content}
use Rattle.event_json.specs.declared.bodies.Body.{Body}
use Rattle.event_json.specs.declared.bodies.Body.TheVariants.{Note, Ship, Make, Pack}
use Rattle.trace_core.specs.declared.pairs.Pair.{Pair}
use Rattle.trace_core.specs.Gaps.{Place, IsElsewhere, ShipsTo, by_known}
use Rattle.trace_core.specs.Pairs.{Packs, pair_cmp}
use Rattle.trace_core.specs.Relations.{Reaches}
use Rattle.trace_core.specs.Sites.{SiteEvents}
use Rattle.gap_core.specs.declared.lines.GapLine.{GapLine}
use Rattle.gap_core.specs.declared.line_events.GapEvents.{GapEvents}
use Rattle.gap_core.specs.declared.event_places.Kind.{Kind}
use Rattle.gap_core.specs.declared.event_places.Kind.TheVariants.{FirstPacking, LastShipment}

-- the site stands at the place, and no earlier one has its number
pub record IsFirstAt (sites : List SiteEvents) (at : ℕ) (s : SiteEvents) : Type 0 where
  pub there : slice_get sites at ≡ Some s
  pub first : (k : ℕ) (t : SiteEvents) → k < at → slice_get sites k ≡ Some t → t.me ≢ s.me

-- the first of the sites that have this number
abbrev pub IsSiteOf : List SiteEvents → ℕ → SiteEvents → Type 0
IsSiteOf sites number s = (at : ℕ) × IsFirstAt sites at s × (s.me ≡ number)

-- the event at the place puts something into the container
abbrev pub PutsInAt : SiteEvents → List ℕ → ℕ → Type 0
PutsInAt s container place = (e : Content) × (slice_get s.events place ≡ Some e) × (child : List ℕ) × Packs container child e.body

-- the event at the place ships the container to a place elsewhere, by itself or in something that it is known to lie in
pub record ShipsOnAt (sites : List SiteEvents) (s : SiteEvents) (container : List ℕ) (place : ℕ) : Type 0 where
  pub event : Content
  pub stands : slice_get s.events place ≡ Some event
  pub to : Place
  pub elsewhere : IsElsewhere s to
  pub carrier : List ℕ
  pub ships : ShipsTo carrier to event.body
  pub inside : Reaches (by_known sites s) carrier container

-- at the site of a number
abbrev pub IsPackedAt : List SiteEvents → ℕ → List ℕ → ℕ → Type 0
IsPackedAt sites number container place = (s : SiteEvents) × IsSiteOf sites number s × PutsInAt s container place

abbrev pub IsShippedOnAt : List SiteEvents → ℕ → List ℕ → ℕ → Type 0
IsShippedOnAt sites number container place = (s : SiteEvents) × IsSiteOf sites number s × ShipsOnAt sites s container place

-- the first of the places, and none where there is none
abbrev pub IsFirstPlace : (ℕ → Type 0) → Option ℕ → Type 0
IsFirstPlace P None = (j : ℕ) → P j → ⊥
IsFirstPlace P (Some k) = P k × ((j : ℕ) → P j → k ≤ j)

-- the last of them
abbrev pub IsLastPlace : (ℕ → Type 0) → Option ℕ → Type 0
IsLastPlace P None = (j : ℕ) → P j → ⊥
IsLastPlace P (Some k) = P k × ((j : ℕ) → P j → j ≤ k)

-- the events of a line
pub record AreEventsOf (sites : List SiteEvents) (line : GapLine) (events : GapEvents) : Type 0 where
  pub packed : IsFirstPlace (IsPackedAt sites line.by line.container) events.packed
  pub shipped : IsLastPlace (IsShippedOnAt sites line.site line.container) events.shipped

-- ---- how they are looked for

-- the first place is kept, or the last
abbrev pub IsKept : Kind → ℕ → ℕ → Type 0
IsKept FirstPacking kept place = kept ≤ place
IsKept LastShipment kept place = place ≤ kept

-- what the event does
abbrev pub Does : Kind → List SiteEvents → SiteEvents → List ℕ → ℕ → Type 0
Does FirstPacking sites s container place = PutsInAt s container place
Does LastShipment sites s container place = ShipsOnAt sites s container place

-- the container of a line, at the site that packs or ships it
abbrev pub pair_of : Kind → GapLine → Pair
pair_of FirstPacking line = record { site = line.by; item = line.container }
pair_of LastShipment line = record { site = line.site; item = line.container }

abbrev pub IsPairOf : Kind → GapLine → Pair → Type 0
IsPairOf kind line p = pair_of kind line ≡ p

-- the place that is kept of each pair; it stands for itself and those that are worse
abbrev pub PairPlaces : Type 0
PairPlaces = BTreeMap Pair ℕ

abbrev pub Holds : Kind → PairPlaces → Pair × ℕ → Type 0
Holds kind index m = (k : ℕ) × (get pair_cmp index m.0 ≡ Some k) × IsKept kind k m.1

-- an event of the pair's site does so
abbrev pub IsDoneAt : Kind → List SiteEvents → Pair → ℕ → Type 0
IsDoneAt kind sites p place = (s : SiteEvents) × IsSiteOf sites p.site s × Does kind sites s p.item place

-- just those that an event does are kept of the pair
abbrev pub IsIndexed : Kind → List SiteEvents → PairPlaces → Pair → Type 0
IsIndexed kind sites index p = (n : ℕ) → Holds kind index (p, n) ↔ ((k : ℕ) × IsDoneAt kind sites p k × IsKept kind k n)

-- the event at the place does so with one of the wanted containers
abbrev pub EventDoes : Kind → List SiteEvents → SiteEvents → List (List ℕ) → ℕ → Pair × ℕ → Type 0
EventDoes kind sites s wanted place m = (s.me ≡ m.0.site) × Contains wanted m.0.item × Does kind sites s m.0.item place × IsKept kind place m.1

-- an event of the site of a place, if that is the first of its number
pub record SiteDoes (kind : Kind) (sites : List SiteEvents) (pairs : List Pair) (at : ℕ) (m : Pair × ℕ) : Type 0 where
  pub site : SiteEvents
  pub first : IsFirstAt sites at site
  pub number : site.me ≡ m.0.site
  pub given : Contains pairs m.0
  pub place : ℕ
  pub does : Does kind sites site m.0.item place
  pub kept : IsKept kind place m.1

-- an event of one of the sites
abbrev pub SomeDoes : Kind → List SiteEvents → List Pair → Pair × ℕ → Type 0
SomeDoes kind sites pairs m = (at : ℕ) × SiteDoes kind sites pairs at m

-- what the event at the place does with an item, if that is wanted
abbrev pub IsWantedOf : Kind → ℕ → List (List ℕ) → ℕ → List ℕ → Pair × ℕ → Type 0
IsWantedOf kind me wanted place item m = Contains wanted item × (record { site = me; item = item } ≡ m.0) × IsKept kind place m.1

-- what an event puts into something
abbrev pub children_in : Body → List (List ℕ)
children_in (Note items) = []
children_in (Ship items sites outside) = []
children_in (Make id ins outs) = []
children_in (Pack action parent children) = children

-- it puts something into one of the wanted containers
abbrev pub BodyDoes : ℕ → List (List ℕ) → ℕ → Body → Pair × ℕ → Type 0
BodyDoes me wanted place body m = (me ≡ m.0.site) × Contains wanted m.0.item × ((child : List ℕ) × Packs m.0.item child body) × (place ≤ m.1)
