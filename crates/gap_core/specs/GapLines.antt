-- Which items stand in packed gaps, and who packed them.
use Rattle.std.specs.Prelude.{◌≡◌, ◌≤◌, ℕ, List, Contains}
use Rattle.trace_core.specs.Gaps.{Place, IsPackedGap, SendsOn, by_known}
use Rattle.trace_core.specs.Pairs.{Carries}
use Rattle.trace_core.specs.Relations.{Reaches}
use Rattle.trace_core.specs.Sites.{SiteEvents}

-- a site from which the packing came: it captured it, and the parent came from there
pub record IsSourceOf (sites : List SiteEvents) (u s : SiteEvents) (parent child : List ℕ) : Type 0 where
  pub there : Contains sites u
  pub packed : Carries u.events parent child
  pub came : Reaches (SendsOn sites parent) u s

-- the least of them is told
pub record IsPackedBy (sites : List SiteEvents) (by : ℕ) (s : SiteEvents) (parent child : List ℕ) : Type 0 where
  pub site : SiteEvents
  pub source : IsSourceOf sites site s parent child
  pub number : site.me ≡ by
  pub least : (u : SiteEvents) → IsSourceOf sites u s parent child → by ≤ u.me

-- a child of the container stands in a gap at the site, wherever it is shipped to, and this site packed it
pub record IsGapChild (sites : List SiteEvents) (site by : ℕ) (container child : List ℕ) : Type 0 where
  pub at : SiteEvents
  pub there : Contains sites at
  pub number : at.me ≡ site
  pub to : Place
  pub gap : IsPackedGap (by_known sites) at container child to
  pub packed : IsPackedBy sites by at container child
