-- Who packed what is known to lie in a container: a number stands for itself and all that are greater, and the least is kept.
use Rattle.std.specs.Prelude.{◌≡◌, ◌≤◌, ℕ, List, Some, slice_get}
use Rattle.std.specs.BTreeMap.{BTreeMap, get}
use Rattle.trace_core.specs.Pairs.{Carries}
use Rattle.trace_core.specs.Sites.{SiteEvents}
use Rattle.gap_core.specs.Sources.{Index, Keeps, item_cmp}
use Rattle.gap_core.specs.declared.sources.Source.{Source}

-- the least packer of each item
abbrev pub Packers : Type 0
Packers = BTreeMap (List ℕ) ℕ

-- that of the item isn't greater
abbrev pub IsFrom : Packers → List ℕ × ℕ → Type 0
IsFrom packers m = (by : ℕ) × (get item_cmp packers m.0 ≡ Some by) × (by ≤ m.1)

-- the site of a place packed the item, and its number isn't greater
abbrev pub IsFromPlace : List SiteEvents → List ℕ → ℕ → List ℕ × ℕ → Type 0
IsFromPlace sites container from m = (u : SiteEvents) × (slice_get sites from ≡ Some u) × Carries u.events container m.0 × (u.me ≤ m.1)

-- so of a source that is known at the site of a place
abbrev pub IsFromSource : List SiteEvents → ℕ → List ℕ → Source → List ℕ × ℕ → Type 0
IsFromSource sites at container source m = (source.at ≡ at) × IsFromPlace sites container source.from m

-- so of one of the sources
abbrev pub IsFromOne : List SiteEvents → Index → ℕ → List ℕ → List ℕ × ℕ → Type 0
IsFromOne sites index at container m = (from : ℕ) × Keeps index (container, record { at = at; from = from }) × IsFromPlace sites container from m
