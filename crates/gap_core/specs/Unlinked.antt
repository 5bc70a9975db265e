-- Containers that a site sent on, and into which another site put what isn't known there.
use Rattle.std.specs.Prelude.{◌≡◌, ◌≢◌, ◌⊎◌, ℕ, List, Some, Contains, slice_get}
use Rattle.trace_core.specs.Gaps.{Place, IsElsewhere, IsSent, SendsOn, by_known}
use Rattle.trace_core.specs.Pairs.{Carries}
use Rattle.trace_core.specs.Relations.{Reaches}
use Rattle.trace_core.specs.Sites.{SiteEvents}
use Rattle.gap_core.specs.Elsewhere.{IsSentElsewhere}
use Rattle.gap_core.specs.Lines.{AreLinesOf}
use Rattle.gap_core.specs.Sources.{Index, Keeps}
use Rattle.gap_core.specs.declared.gap_items.GapItem.{GapItem}
use Rattle.gap_core.specs.declared.lines.GapLine.{GapLine}

-- the site sent the container to another site or to a place outside, by itself or in something that it is known to lie in; another site, by its
-- number, put the child into it, and where it was sent from the child isn't known to lie in it
pub record IsUnlinkedChild (sites : List SiteEvents) (g : GapItem) : Type 0 where
  pub site : SiteEvents
  pub there : Contains sites site
  pub number : site.me ≡ g.site
  pub to : Place
  pub elsewhere : IsElsewhere site to
  pub sent : IsSent (by_known sites) site g.container to
  pub packer : SiteEvents
  pub packer_there : Contains sites packer
  pub packer_number : packer.me ≡ g.by
  pub other : packer.me ≢ site.me
  pub packed : Carries packer.events g.container g.child
  pub unknown : by_known sites site g.container g.child → ⊥

-- So the site that sent the container didn't put the child into it itself, and got it from no site that did, over however many sites.
abbrev pub UnlinkedNeverCame : Type 0
UnlinkedNeverCame =
    (sites : List SiteEvents) (g : GapItem) (it : IsUnlinkedChild sites g)
    → (Carries it.site.events g.container g.child → ⊥)
    × ((u : SiteEvents) → Contains sites u → Carries u.events g.container g.child → Reaches (SendsOn sites g.container) u it.site → ⊥)

-- those of these items: a line for each site, container and packer
abbrev pub AreUnlinkedLines : List SiteEvents → List GapLine → Type 0
AreUnlinkedLines sites = AreLinesOf (IsUnlinkedChild sites)

-- ---- place by place

-- at the site of a place, what the site of another place put into the container, as far as it isn't known at the first one
pub record IsUnlinkedFrom (sites : List SiteEvents) (at : ℕ) (container : List ℕ) (from : ℕ) (g : GapItem) : Type 0 where
  pub site : SiteEvents
  pub there : slice_get sites at ≡ Some site
  pub number : site.me ≡ g.site
  pub of : container ≡ g.container
  pub packer : SiteEvents
  pub packer_there : slice_get sites from ≡ Some packer
  pub packer_number : packer.me ≡ g.by
  pub other : packer.me ≢ site.me
  pub packed : Carries packer.events container g.child
  pub unknown : by_known sites site container g.child → ⊥

-- what one of the sites did
abbrev pub IsUnlinkedIn : List SiteEvents → ℕ → List ℕ → GapItem → Type 0
IsUnlinkedIn sites at container g = (from : ℕ) × IsUnlinkedFrom sites at container from g

-- of a container that the site of a place sent elsewhere
abbrev pub IsUnlinkedAt : List SiteEvents → ℕ → GapItem → Type 0
IsUnlinkedAt sites at g = IsSentElsewhere sites at g.container × IsUnlinkedIn sites at g.container g

-- the item of a line with this child, which isn't among those that are known inside
abbrev pub IsUnknownItem : ℕ → List ℕ → ℕ → List (List ℕ) → List ℕ → GapItem → Type 0
IsUnknownItem site container by inside child g = (Contains inside child → ⊥) × (record { site = site; container = container; by = by; child = child } ≡ g)

-- the packer has the site's own number, or is known there as a source of the container
abbrev pub IsLinked : SiteEvents → SiteEvents → Index → ℕ → ℕ → List ℕ → Type 0
IsLinked s u known at from container = (s.me ≡ u.me) ⊎ Keeps known (container, record { at = at; from = from })
