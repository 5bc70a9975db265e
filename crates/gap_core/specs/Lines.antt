-- Gaps by container: a line for each site, container and site that packed it.
use Rattle.std.specs.Prelude.{◌≡◌, ◌<◌, ◌≤◌, ◌↔◌, ℕ, List, length, Contains, get_or, sum_by}
use Rattle.std.specs.List.Sorted.{IsStrictlySortedBy}
use Rattle.std.specs.declared.cmp.Ordering.{Ordering}
use Rattle.std.specs.Ordering.{nat_cmp, ordering_then}
use Rattle.std.specs.Cmp.Lexicographic.{slice_cmp}
use Rattle.trace_core.specs.Sites.{SiteEvents}
use Rattle.trace_core.specs.Spreads.{AreAscendingItems}
use Rattle.gap_core.specs.GapLines.{IsGapChild}
use Rattle.gap_core.specs.Used.{IsUsedChild}
use Rattle.gap_core.specs.declared.gap_items.GapItem.{GapItem}
use Rattle.gap_core.specs.declared.lines.GapLine.{GapLine}

-- by site, then by container, then by who packed
abbrev pub gap_line_cmp : GapLine → GapLine → Ordering
gap_line_cmp a b = ordering_then (nat_cmp a.site b.site) (ordering_then (slice_cmp nat_cmp a.container b.container) (nat_cmp a.by b.by))

-- the item is one of the line
pub record IsOfLine (g : GapItem) (l : GapLine) : Type 0 where
  pub site : g.site ≡ l.site
  pub container : g.container ≡ l.container
  pub by : g.by ≡ l.by

-- the item of a line with this child
abbrev pub item_of : GapLine → List ℕ → GapItem
item_of l child = record { site = l.site; container = l.container; by = l.by; child = child }

-- the children of a line, each once: as many as it says, and one at least
pub record IsLineOf (P : GapItem → Type 0) (l : GapLine) : Type 0 where
  pub children : List (List ℕ)
  pub ascending : AreAscendingItems children
  pub exact : (child : List ℕ) → Contains children child ↔ P (item_of l child)
  pub counted : l.items ≡ length children
  pub some : 1 ≤ l.items

-- all lines of the items that P holds of: ascending, each true, and no item is left out
pub record AreLinesOf (P : GapItem → Type 0) (lines : List GapLine) : Type 0 where
  pub ascending : IsStrictlySortedBy gap_line_cmp lines
  pub true_ones : (l : GapLine) → Contains lines l → IsLineOf P l
  pub all : (g : GapItem) → P g → (l : GapLine) × Contains lines l × IsOfLine g l

-- those of the items that stand in packed gaps
abbrev pub AreGapLines : List SiteEvents → List GapLine → Type 0
AreGapLines sites = AreLinesOf (λ g. IsGapChild sites g.site g.by g.container g.child)

-- those of the items that weren't taken into a transformation with what they lie in
abbrev pub AreUsedLines : List SiteEvents → List GapLine → Type 0
AreUsedLines sites = AreLinesOf (IsUsedChild sites)

-- how many items the lines have
abbrev pub items_in : List GapLine → ℕ
items_in lines = sum_by (λ l. l.items) lines

-- ---- the lines of items in order

-- both are of one line
pub record HaveOneKey (a b : GapItem) : Type 0 where
  pub site : a.site ≡ b.site
  pub container : a.container ≡ b.container
  pub by : a.by ≡ b.by

-- those of a line that begins at a place end before this one
pub record IsEnd (items : List GapItem) (start end : ℕ) : Type 0 where
  pub after : start < end
  pub within : end ≤ length items
  pub same : (d : GapItem) (k : ℕ) → start ≤ k → k < end → HaveOneKey (get_or items start d) (get_or items k d)
  pub next : (d : GapItem) → end < length items → HaveOneKey (get_or items start d) (get_or items end d) → ⊥
