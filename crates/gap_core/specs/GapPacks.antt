-- The packings by which a site closes its packed gaps.
use Rattle.std.specs.Prelude.{◌≡◌, ℕ, List, [], Option, None, Some, Contains, slice_get}
use Rattle.std.specs.BTreeMap.{BTreeMap, get}
use Rattle.std.specs.Cmp.Lexicographic.{slice_cmp}
use Rattle.std.specs.Ordering.{nat_cmp, ordering_then}
use Rattle.std.specs.declared.cmp.Ordering.{Ordering}
use Rattle.event_json.specs.Events.{Content}
use Rattle.event_json.specs.declared.bodies.Body.{Body}
use Rattle.trace_core.specs.Gaps.{Place, IsPackedGap, SendsOn, by_known}
use Rattle.trace_core.specs.Pairs.{Packs}
use Rattle.trace_core.specs.Relations.{Reaches}
use Rattle.trace_core.specs.Sites.{SiteEvents}
use Rattle.gap_core.specs.Sources.{Index, Keeps, item_cmp}
use Rattle.gap_core.specs.declared.gap_items.GapItem.{GapItem}
use Rattle.gap_core.specs.declared.packs.GapPack.{GapPack}
use Rattle.gap_core.specs.declared.packs.Wanted.{Wanted}
use Rattle.gap_core.specs.declared.packs.Wanted.TheVariants.{Edges, Items}

-- by the site whose gaps it closes, then by who captured it, then by its place there
abbrev pub gap_pack_cmp : GapPack → GapPack → Ordering
gap_pack_cmp a b =
    ordering_then (nat_cmp a.site b.site) (ordering_then (nat_cmp a.by b.by) (ordering_then (nat_cmp a.place b.place) (slice_cmp nat_cmp a.container b.container)))

-- an event of one site that closes a gap of another one: it put something into a container that came from there, and this stands in a gap
pub record ClosesGap (sites : List SiteEvents) (packer s : SiteEvents) (container : List ℕ) (body : Body) : Type 0 where
  pub child : List ℕ
  pub packs : Packs container child body
  pub came : Reaches (SendsOn sites container) packer s
  pub to : Place
  pub gap : IsPackedGap (by_known sites) s container child to

-- it is one of those events of the sites that close a gap of this one
pub record IsPackFor (sites : List SiteEvents) (s : SiteEvents) (p : GapPack) : Type 0 where
  pub number : s.me ≡ p.site
  pub packer : SiteEvents
  pub listed : Contains sites packer
  pub by : packer.me ≡ p.by
  pub event : Content
  pub stands : slice_get packer.events p.place ≡ Some event
  pub closes : ClosesGap sites packer s p.container event.body

-- so of one of the sites
abbrev pub IsGapPack : List SiteEvents → GapPack → Type 0
IsGapPack sites p = (s : SiteEvents) × Contains sites s × IsPackFor sites s p

-- ---- those that tell of items

-- an event of another site tells this one where one of these items lies: it put the item into a container, which came from there
pub record TellsItem (sites : List SiteEvents) (s : SiteEvents) (items : List (List ℕ)) (p : GapPack) : Type 0 where
  pub number : s.me ≡ p.site
  pub packer : SiteEvents
  pub listed : Contains sites packer
  pub by : packer.me ≡ p.by
  pub event : Content
  pub stands : slice_get packer.events p.place ≡ Some event
  pub child : List ℕ
  pub packs : Packs p.container child event.body
  pub came : Reaches (SendsOn sites p.container) packer s
  pub asked : Contains items child

-- so the site of a number
abbrev pub IsItemPack : List SiteEvents → ℕ → List (List ℕ) → GapPack → Type 0
IsItemPack sites site items p = (s : SiteEvents) × Contains sites s × (s.me ≡ site) × TellsItem sites s items p

-- ---- place by place

-- so the site of a number, if it is that of a place
abbrev pub IsItemPackAt : List SiteEvents → ℕ → List (List ℕ) → ℕ → GapPack → Type 0
IsItemPackAt sites site items at p = (s : SiteEvents) × (slice_get sites at ≡ Some s) × (s.me ≡ site) × TellsItem sites s items p

-- so of the site of a place
abbrev pub IsPackAt : List SiteEvents → ℕ → GapPack → Type 0
IsPackAt sites at p = (s : SiteEvents) × (slice_get sites at ≡ Some s) × IsPackFor sites s p

-- what stands in gaps, by container
abbrev pub EdgeMap : Type 0
EdgeMap = BTreeMap (List ℕ) (List (List ℕ))

-- the items of a container, none where there are none
abbrev pub or_no_items : Option (List (List ℕ)) → List (List ℕ)
or_no_items None = []
or_no_items (Some items) = items

-- the item stands in a gap in the container
abbrev pub KeepsEdge : EdgeMap → List ℕ × List ℕ → Type 0
KeepsEdge edges m = Contains (or_no_items (get item_cmp edges m.0)) m.1

-- it is that of a gap
abbrev pub IsEdgeOf : GapItem → List ℕ × List ℕ → Type 0
IsEdgeOf g m = (g.container ≡ m.0) × (g.child ≡ m.1)

-- it is wanted that the child lies in the container: that stands in a gap, or the child is one of some items
abbrev pub IsWanted : Wanted → List ℕ → List ℕ → Type 0
IsWanted (Edges edges) container child = KeepsEdge edges (container, child)
IsWanted (Items items) container child = Contains items child

-- an event of the site of a place puts something into the container of which that is known at the site of another one, and which is wanted
abbrev pub ClosesEdge : Index → Wanted → ℕ → ℕ → Body → List ℕ → Type 0
ClosesEdge known wanted at from body container =
    Keeps known (container, record { at = at; from = from }) × (child : List ℕ) × Packs container child body × IsWanted wanted container child

-- so the event at a place of the one site, for the site of a number
abbrev pub IsPackOnce : Index → Wanted → ℕ → ℕ → ℕ → SiteEvents → ℕ → GapPack → Type 0
IsPackOnce known wanted site at from packer place p =
    (site ≡ p.site) × (e : Content) × (slice_get packer.events place ≡ Some e) × (packer.me ≡ p.by) × (place ≡ p.place) × ClosesEdge known wanted at from e.body p.container

-- one of its events
abbrev pub IsPackIn : Index → Wanted → ℕ → ℕ → ℕ → SiteEvents → GapPack → Type 0
IsPackIn known wanted site at from packer p = (place : ℕ) × IsPackOnce known wanted site at from packer place p

-- so of the site of a place
abbrev pub IsPackFrom : List SiteEvents → Index → Wanted → ℕ → ℕ → ℕ → GapPack → Type 0
IsPackFrom sites known wanted site at from p = (packer : SiteEvents) × (slice_get sites from ≡ Some packer) × IsPackIn known wanted site at from packer p
