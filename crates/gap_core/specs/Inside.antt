-- What lies in an item by the packings of all sites: by whichever site and whenever it was put there, whether or not it was taken out
-- again, and whoever has the item now.
use Rattle.std.specs.Prelude.{◌↔◌, ℕ, List, Contains}
use Rattle.std.specs.List.Sorted.{IsStrictlySortedBy}
use Rattle.trace_core.specs.Pairs.{Carries}
use Rattle.trace_core.specs.Relations.{Reaches}
use Rattle.trace_core.specs.Sites.{SiteEvents}
use Rattle.gap_core.specs.Adding.{ByOne}
use Rattle.gap_core.specs.Sources.{item_cmp}

-- one of the sites put the child into the parent
abbrev pub IsPackedBySome : List SiteEvents → List ℕ → List ℕ → Type 0
IsPackedBySome sites parent child = ByOne sites (λ s. Carries s.events parent) child

-- it was put into the item, or into what was, at any depth
abbrev pub LiesInside : List SiteEvents → List ℕ → List ℕ → Type 0
LiesInside sites item i = (child : List ℕ) × IsPackedBySome sites item child × Reaches (IsPackedBySome sites) child i

-- just the items of which that is so, by their keys
pub record AreInside (sites : List SiteEvents) (item : List ℕ) (items : List (List ℕ)) : Type 0 where
  pub ascending : IsStrictlySortedBy item_cmp items
  pub exact : (i : List ℕ) → Contains items i ↔ LiesInside sites item i
