-- Packed gaps in which some of given pairs stand.
use Rattle.std.specs.Prelude.{◌≡◌, ℕ, List, Some, Contains, slice_get}
use Rattle.trace_core.specs.declared.pairs.Pair.{Pair}
use Rattle.trace_core.specs.Gaps.{by_known}
use Rattle.trace_core.specs.Relations.{Reaches}
use Rattle.trace_core.specs.Sites.{SiteEvents}
use Rattle.gap_core.specs.GapLines.{IsGapChild}
use Rattle.gap_core.specs.Lines.{AreLinesOf}
use Rattle.gap_core.specs.declared.gap_items.GapItem.{GapItem}
use Rattle.gap_core.specs.declared.lines.GapLine.{GapLine}

-- the item stands in a packed gap, and one of the pairs is of that site and lies in it, by what is known there, or is the item itself
pub record IsTouchedChild (sites : List SiteEvents) (pairs : List Pair) (g : GapItem) : Type 0 where
  pub gap : IsGapChild sites g.site g.by g.container g.child
  pub site : SiteEvents
  pub there : Contains sites site
  pub number : site.me ≡ g.site
  pub pair : Pair
  pub given : Contains pairs pair
  pub at : pair.site ≡ g.site
  pub inside : Reaches (by_known sites site) g.child pair.item

-- the lines of these items
abbrev pub AreTouchedLines : List SiteEvents → List Pair → List GapLine → Type 0
AreTouchedLines sites pairs = AreLinesOf (IsTouchedChild sites pairs)

-- ---- place by place

-- at the site of a place it lies in the item, or is the item itself
abbrev pub LiesAt : List SiteEvents → ℕ → List ℕ → List ℕ → Type 0
LiesAt sites at item i = (s : SiteEvents) × (slice_get sites at ≡ Some s) × Reaches (by_known sites s) item i

-- the pair is this item at the site of the number
abbrev pub IsItemAt : ℕ → Pair → List ℕ → Type 0
IsItemAt site pair i = record { site = site; item = i } ≡ pair

-- the item at a place of the one list is in the other
abbrev pub IsCommonAt : List (List ℕ) → List (List ℕ) → ℕ → Type 0
IsCommonAt inside wanted k = (i : List ℕ) × (slice_get inside k ≡ Some i) × Contains wanted i

-- some item is in both
abbrev pub HaveCommon : List (List ℕ) → List (List ℕ) → Type 0
HaveCommon inside wanted = (i : List ℕ) × Contains inside i × Contains wanted i

-- the item in a gap is of the site of a place, and one of these lies in it there
pub record IsTouchedBy (sites : List SiteEvents) (at : ℕ) (wanted : List (List ℕ)) (gap : GapItem) : Type 0 where
  pub site : SiteEvents
  pub there : slice_get sites at ≡ Some site
  pub number : gap.site ≡ site.me
  pub item : List ℕ
  pub listed : Contains wanted item
  pub inside : Reaches (by_known sites site) gap.child item

-- so of this one
abbrev pub IsTouchedOne : List SiteEvents → ℕ → List (List ℕ) → GapItem → GapItem → Type 0
IsTouchedOne sites at wanted gap g = IsTouchedBy sites at wanted gap × (gap ≡ g)

-- so of one of some items in gaps and by the pairs of the site
pub record IsTouchedAt (sites : List SiteEvents) (pairs : List Pair) (gaps : List GapItem) (at : ℕ) (g : GapItem) : Type 0 where
  pub gap : Contains gaps g
  pub site : SiteEvents
  pub there : slice_get sites at ≡ Some site
  pub number : g.site ≡ site.me
  pub item : List ℕ
  pub given : Contains pairs (record { site = site.me; item = item })
  pub inside : Reaches (by_known sites site) g.child item
