-- What is known at sites of packings, by the sites that packed.
use Rattle.std.specs.Prelude.{◌≡◌, ◌↔◌, ℕ, List, [], Option, None, Some, Any, Contains, slice_get}
use Rattle.std.specs.BTreeMap.{BTreeMap, get}
use Rattle.std.specs.Cmp.Lexicographic.{slice_cmp}
use Rattle.std.specs.Ordering.{nat_cmp}
use Rattle.std.specs.declared.cmp.Ordering.{Ordering}
use Rattle.event_json.specs.Events.{Content}
use Rattle.event_json.specs.declared.bodies.Body.{Body}
use mathlib.Core.Logic.{inl}
use Rattle.trace_core.specs.Gaps.{SendsOn, ShipsTo}
use Rattle.trace_core.specs.Pairs.{Carries}
use Rattle.trace_core.specs.PutIn.{filled}
use Rattle.trace_core.specs.Relations.{Reaches}
use Rattle.trace_core.specs.Sites.{SiteEvents}
use Rattle.gap_core.specs.declared.sources.Source.{Source}

-- items by the bytes of their keys
abbrev pub item_cmp : List ℕ → List ℕ → Ordering
item_cmp i j = slice_cmp nat_cmp i j

-- the sources of each container
abbrev pub Index : Type 0
Index = BTreeMap (List ℕ) (List Source)

-- those that are looked up, none where there are none
abbrev pub or_no_sources : Option (List Source) → List Source
or_no_sources None = []
or_no_sources (Some sources) = sources

-- it is a source of the container
abbrev pub Keeps : Index → List ℕ × Source → Type 0
Keeps index m = Contains (or_no_sources (get item_cmp index m.0)) m.1

-- the packer is known at one place, and so at another one
abbrev pub IsPassed : ℕ → ℕ → List Source → Source → Type 0
IsPassed at to sources x = (to ≡ x.at) × Contains sources (record { at = at; from = x.from })

-- so of one source
abbrev pub IsPassedBy : ℕ → ℕ → Source → Source → Type 0
IsPassedBy at to source x = (source.at ≡ at) × (record { at = to; from = source.from } ≡ x)

-- so for an item
abbrev pub IsPassedOn : Index → ℕ → ℕ → List ℕ → List ℕ × Source → Type 0
IsPassedOn index at to item m = (item ≡ m.0) × (to ≡ m.1.at) × Keeps index (item, record { at = at; from = m.1.from })

-- the site of a place put the child into the parent
abbrev pub IsPackedAt : List SiteEvents → ℕ → List ℕ → List ℕ → Type 0
IsPackedAt sites from parent child = (u : SiteEvents) × (slice_get sites from ≡ Some u) × Carries u.events parent child

-- so of a packer that is known at the site of a place
abbrev pub IsPackedBySource : List SiteEvents → ℕ → List ℕ → Source → List ℕ → Type 0
IsPackedBySource sites at parent source child = (source.at ≡ at) × IsPackedAt sites source.from parent child

-- one of the packers did that is known at the site of a place
abbrev pub LiesIn : List SiteEvents → Index → ℕ → List ℕ → List ℕ → Type 0
LiesIn sites index at parent child = (from : ℕ) × Keeps index (parent, record { at = at; from = from }) × IsPackedAt sites from parent child

-- the event fills the container, at the site of a place
abbrev pub IsFilledBy : Body → ℕ → List ℕ × Source → Type 0
IsFilledBy body at m = (filled body ≡ Some m.0) × (record { at = at; from = at } ≡ m.1)

-- so of the event at a place
abbrev pub IsFilledAt : List Content → ℕ → ℕ → List ℕ × Source → Type 0
IsFilledAt events at place m = (e : Content) × (slice_get events place ≡ Some e) × IsFilledBy e.body at m

-- one of the events of the site does
abbrev pub IsFilledIn : SiteEvents → ℕ → List ℕ × Source → Type 0
IsFilledIn s at m = (place : ℕ) × IsFilledAt s.events at place m

-- one of the events of the site of a place does
abbrev pub IsOwnAt : List SiteEvents → ℕ → List ℕ × Source → Type 0
IsOwnAt sites at m = (s : SiteEvents) × (slice_get sites at ≡ Some s) × (place : ℕ) × IsFilledAt s.events at place m

-- a site itself filled the container
abbrev pub IsOwn : List SiteEvents → List ℕ × Source → Type 0
IsOwn sites m = (at : ℕ) × IsOwnAt sites at m

-- just what each site filled itself
abbrev pub AreOwn : List SiteEvents → Index → Type 0
AreOwn sites index = (m : List ℕ × Source) → Keeps index m ↔ IsOwn sites m

-- what the site of a place sent to that of another one, by the packings that are known there
abbrev pub IsToldTo : List SiteEvents → Index → ℕ → ℕ → List ℕ → Type 0
IsToldTo sites index at to item =
    (s : SiteEvents) × (t : SiteEvents) × (slice_get sites at ≡ Some s) × (slice_get sites to ≡ Some t)
    × (carrier : List ℕ) × Any (λ e. ShipsTo carrier (inl t.me) e.body) s.events × Reaches (LiesIn sites index at) carrier item

-- what is known of such an item at the first place is known at the other
abbrev pub IsTold : List SiteEvents → Index → ℕ → ℕ → List ℕ × Source → Type 0
IsTold sites index at to m = (to ≡ m.1.at) × IsToldTo sites index at to m.0 × Keeps index (m.0, record { at = at; from = m.1.from })

-- the container came from the one place to the other, over however many sites
abbrev pub CameFrom : List SiteEvents → List ℕ → Source → Type 0
CameFrom sites item x =
    (u : SiteEvents) × (s : SiteEvents) × (slice_get sites x.from ≡ Some u) × (slice_get sites x.at ≡ Some s) × Reaches (SendsOn sites item) u s

-- just what came: no source from which the container didn't come, and each site from which it did and that packed something into it
pub record AreKnown (sites : List SiteEvents) (index : Index) : Type 0 where
  pub sound : (m : List ℕ × Source) → Keeps index m → CameFrom sites m.0 m.1
  pub complete : (at : ℕ) (s u : SiteEvents) (parent child : List ℕ)
      → slice_get sites at ≡ Some s → Contains sites u → Carries u.events parent child → Reaches (SendsOn sites parent) u s
      → (from : ℕ) × (slice_get sites from ≡ Some u) × Keeps index (parent, record { at = at; from = from })
