-- Items that sites sent by what is known at them, and not by their own packings.
use Rattle.std.specs.Prelude.{◌≡◌, ℕ, List, Some, Contains, slice_get}
use Rattle.std.specs.BTreeSet.{BTreeSet}
use Rattle.trace_core.specs.declared.pairs.Pair.{Pair}
use Rattle.trace_core.specs.Pairs.{pair_cmp}
use Rattle.trace_core.specs.Searches.{IsFound}
use Rattle.trace_core.specs.Gaps.{Place, IsMissed, by_known}
use Rattle.trace_core.specs.Sites.{SiteEvents}
use Rattle.gap_core.specs.GapItems.{IsSentBy}
use Rattle.gap_core.specs.Sources.{Index}

-- the item is missed at the site, to some place
pub record IsMissedPair (sites : List SiteEvents) (p : Pair) : Type 0 where
  pub site : SiteEvents
  pub there : Contains sites site
  pub number : site.me ≡ p.site
  pub to : Place
  pub missed : IsMissed (by_known sites) site p.item to

-- so at the site of a place
pub record IsMissedAt (sites : List SiteEvents) (at : ℕ) (p : Pair) : Type 0 where
  pub site : SiteEvents
  pub there : slice_get sites at ≡ Some site
  pub number : site.me ≡ p.site
  pub to : Place
  pub missed : IsMissed (by_known sites) site p.item to

-- the shipments at some places send it by what is known, and by the own packings they don't
pub record IsMissedBy (sites : List SiteEvents) (own known : Index) (at : ℕ) (places : List ℕ) (p : Pair) : Type 0 where
  pub site : SiteEvents
  pub there : slice_get sites at ≡ Some site
  pub number : site.me ≡ p.site
  pub sent : IsSentBy sites known at places p.item
  pub untold : IsSentBy sites own at places p.item → ⊥

-- the item at the site of a place, if it isn't told
abbrev pub IsMissedIn : List SiteEvents → ℕ → List (List ℕ) → List ℕ → Pair → Type 0
IsMissedIn sites at told item p = (Contains told item → ⊥) × (s : SiteEvents) × (slice_get sites at ≡ Some s) × (record { site = s.me; item = item } ≡ p)

-- so of the item at a place of a list
abbrev pub IsMissedOfAt : List SiteEvents → ℕ → List (List ℕ) → List (List ℕ) → ℕ → Pair → Type 0
IsMissedOfAt sites at sent told place p = (item : List ℕ) × (slice_get sent place ≡ Some item) × IsMissedIn sites at told item p

-- the pair, if it is in the set
abbrev pub IsPairFound : BTreeSet Pair → Pair → Pair → Type 0
IsPairFound set pair p = IsFound pair_cmp set pair × (pair ≡ p)
