-- Shipments out of the traced sites that no recall's report tells.
use Rattle.std.specs.Prelude.{◌≡◌, ◌↔◌, ◌⊎◌, ℕ, List, Some, Contains, slice_get}
use Rattle.std.specs.Cmp.Lexicographic.{slice_cmp}
use Rattle.std.specs.Ordering.{nat_cmp, ordering_then}
use Rattle.std.specs.declared.cmp.Ordering.{Ordering}
use mathlib.Core.Logic.{inr}
use Rattle.trace_core.specs.declared.pairs.Pair.{Pair}
use Rattle.trace_core.specs.Gaps.{IsSent, by_known, by_own}
use Rattle.trace_core.specs.Pairs.{pair_cmp}
use Rattle.trace_core.specs.Searches.{IsFound}
use Rattle.trace_core.specs.Sites.{SiteEvents}
use Rattle.gap_core.specs.GapItems.{IsSentBy}
use Rattle.gap_core.specs.Sources.{Index}
use Rattle.gap_core.specs.declared.untold.Reached.{Reached}
use Rattle.gap_core.specs.declared.untold.UntoldShipment.{UntoldShipment}

-- by site, then by item, then by destination
abbrev pub untold_cmp : UntoldShipment → UntoldShipment → Ordering
untold_cmp a b = ordering_then (nat_cmp a.site b.site) (ordering_then (slice_cmp nat_cmp a.item b.item) (slice_cmp nat_cmp a.destination b.destination))

-- the item at the site that shipped it
abbrev pub shipped_pair : UntoldShipment → Pair
shipped_pair x = record { site = x.site; item = x.item }

-- the pair is told, too, and nothing else is new
abbrev pub Tells : Pair → Reached → Reached → Type 0
Tells pair old new = (new.wide ≡ old.wide) × ((p : Pair) → IsFound pair_cmp new.told p ↔ (IsFound pair_cmp old.told p ⊎ (pair ≡ p)))

-- the pair is reached, and not told while the item is so sent
abbrev pub IsUntoldPair : List (List ℕ) → Reached → Pair → Type 0
IsUntoldPair told reached p = IsFound pair_cmp reached.wide p × ((Contains told p.item × IsFound pair_cmp reached.told p) → ⊥)

-- so of an item that the site sent to the place
abbrev pub IsUntoldOf : ℕ → List ℕ → List (List ℕ) → Reached → List ℕ → UntoldShipment → Type 0
IsUntoldOf site text told reached item x =
    IsUntoldPair told reached (record { site = site; item = item }) × (record { site = site; item = item; destination = text } ≡ x)

-- by the events at some places, which ship to the place outside
pub record IsUntoldBy (sites : List SiteEvents) (own known : Index) (reached : Reached) (at : ℕ) (m : List ℕ × List ℕ) (x : UntoldShipment) : Type 0 where
  pub site : SiteEvents
  pub there : slice_get sites at ≡ Some site
  pub number : site.me ≡ x.site
  pub to : m.0 ≡ x.destination
  pub found : IsFound pair_cmp reached.wide (shipped_pair x)
  pub sent : IsSentBy sites known at m.1 x.item
  pub untold : IsFound pair_cmp reached.told (shipped_pair x) → IsSentBy sites own at m.1 x.item → ⊥

-- from the site of a place
pub record IsUntoldAt (sites : List SiteEvents) (reached : Reached) (at : ℕ) (x : UntoldShipment) : Type 0 where
  pub site : SiteEvents
  pub there : slice_get sites at ≡ Some site
  pub number : site.me ≡ x.site
  pub found : IsFound pair_cmp reached.wide (shipped_pair x)
  pub sent : IsSent (by_known sites) site x.item (inr x.destination)
  pub untold : IsFound pair_cmp reached.told (shipped_pair x) → IsSent by_own site x.item (inr x.destination) → ⊥

-- from one of the sites: what is widely reached was sent there by what is known, and it isn't so that the pair is told and the site's own packings
-- send the item there
pub record IsUntoldIn (sites : List SiteEvents) (reached : Reached) (x : UntoldShipment) : Type 0 where
  pub site : SiteEvents
  pub there : Contains sites site
  pub number : site.me ≡ x.site
  pub found : IsFound pair_cmp reached.wide (shipped_pair x)
  pub sent : IsSent (by_known sites) site x.item (inr x.destination)
  pub untold : IsFound pair_cmp reached.told (shipped_pair x) → IsSent by_own site x.item (inr x.destination) → ⊥
