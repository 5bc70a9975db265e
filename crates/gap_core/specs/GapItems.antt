-- Items that stand in packed gaps, site by site.
use Rattle.std.specs.Prelude.{◌≡◌, ℕ, List, Some, Contains, slice_get}
use Rattle.std.specs.BTreeMap.{get}
use Rattle.std.specs.Cmp.Lexicographic.{slice_cmp}
use Rattle.std.specs.Ordering.{nat_cmp, ordering_then}
use Rattle.std.specs.declared.cmp.Ordering.{Ordering}
use Rattle.trace_core.specs.Gaps.{Place, IsPackedGap, by_known}
use Rattle.trace_core.specs.Pairs.{Carries}
use Rattle.trace_core.specs.Relations.{Reaches}
use Rattle.trace_core.specs.Sites.{SiteEvents}
use Rattle.gap_core.specs.GapLines.{IsPackedBy}
use Rattle.gap_core.specs.Packers.{Packers}
use Rattle.gap_core.specs.Shipments.{IsShippedAt}
use Rattle.gap_core.specs.Sources.{Index, LiesIn, item_cmp}
use Rattle.gap_core.specs.declared.gap_items.GapItem.{GapItem}

-- by site, then by container, then by who packed, then by item
abbrev pub gap_item_cmp : GapItem → GapItem → Ordering
gap_item_cmp a b = ordering_then (nat_cmp a.site b.site) (ordering_then (slice_cmp nat_cmp a.container b.container) (ordering_then (nat_cmp a.by b.by) (slice_cmp nat_cmp a.child b.child)))

-- an item that is neither told nor packed, by its packer
abbrev pub IsGapOf : ℕ → List ℕ → List (List ℕ) → List (List ℕ) → Packers → List ℕ → GapItem → Type 0
IsGapOf site container told packed packers child g =
    (Contains told child → ⊥) × (Contains packed child → ⊥) × (by : ℕ) × (get item_cmp packers child ≡ Some by)
    × (record { site = site; container = container; by = by; child = child } ≡ g)

-- at the site of a place, an item of a container that isn't told, and that the site didn't put there
pub record IsGapIn (sites : List SiteEvents) (at : ℕ) (told : List (List ℕ)) (container : List ℕ) (g : GapItem) : Type 0 where
  pub own : SiteEvents
  pub there : slice_get sites at ≡ Some own
  pub site : own.me ≡ g.site
  pub of : container ≡ g.container
  pub packed : IsPackedBy sites g.by own container g.child
  pub uncaptured : Carries own.events container g.child → ⊥
  pub untold : Contains told g.child → ⊥

-- so of the container at a place of a list
abbrev pub IsGapOfAt : List SiteEvents → ℕ → List (List ℕ) → List (List ℕ) → ℕ → GapItem → Type 0
IsGapOfAt sites at sent told place g = (container : List ℕ) × (slice_get sent place ≡ Some container) × IsGapIn sites at told container g

-- the shipments at some places send the item, by the packings whose sources are given
abbrev pub IsSentBy : List SiteEvents → Index → ℕ → List ℕ → List ℕ → Type 0
IsSentBy sites index at places i =
    (s : SiteEvents) × (slice_get sites at ≡ Some s) × (carrier : List ℕ) × IsShippedAt s.events places carrier × Reaches (LiesIn sites index at) carrier i

-- an item of a container that these shipments send, and that by the own packings they don't
pub record IsGapBy (sites : List SiteEvents) (own known : Index) (at : ℕ) (places : List ℕ) (g : GapItem) : Type 0 where
  pub site : SiteEvents
  pub there : slice_get sites at ≡ Some site
  pub number : site.me ≡ g.site
  pub sent : IsSentBy sites known at places g.container
  pub packed : IsPackedBy sites g.by site g.container g.child
  pub uncaptured : Carries site.events g.container g.child → ⊥
  pub untold : IsSentBy sites own at places g.child → ⊥

-- an item that stands in a gap at the site of a place
pub record IsGapAt (sites : List SiteEvents) (at : ℕ) (g : GapItem) : Type 0 where
  pub site : SiteEvents
  pub there : slice_get sites at ≡ Some site
  pub number : site.me ≡ g.site
  pub to : Place
  pub gap : IsPackedGap (by_known sites) site g.container g.child to
  pub packed : IsPackedBy sites g.by site g.container g.child
