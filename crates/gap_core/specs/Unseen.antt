-- Items that were shipped to a site of which no event names them.
use Rattle.std.specs.Prelude.{◌≡◌, ◌≢◌, ℕ, List, Any, Contains}
use Rattle.std.specs.Cmp.Lexicographic.{slice_cmp}
use Rattle.std.specs.Ordering.{nat_cmp, ordering_then}
use Rattle.std.specs.declared.cmp.Ordering.{Ordering}
use mathlib.Core.Logic.{inl}
use Rattle.trace_core.specs.Gaps.{ShipsTo}
use Rattle.trace_core.specs.Sites.{SiteEvents}
use Rattle.trace_core.specs.Spreads.{items_of}
use Rattle.gap_core.specs.Adding.{ByOne}
use Rattle.gap_core.specs.declared.unseen.UnseenItem.{UnseenItem}

-- by the site that it went to, then by item, then by the one that shipped it
abbrev pub unseen_item_cmp : UnseenItem → UnseenItem → Ordering
unseen_item_cmp a b = ordering_then (nat_cmp a.site b.site) (ordering_then (slice_cmp nat_cmp a.item b.item) (nat_cmp a.from b.from))

-- the one site shipped the item to the other, and no event there names it
pub record IsUnseenBetween (s t : SiteEvents) (u : UnseenItem) : Type 0 where
  pub sender : s.me ≡ u.from
  pub receiver : t.me ≡ u.site
  pub elsewhere : s.me ≢ t.me
  pub shipped : Any (λ e. ShipsTo u.item (inl t.me) e.body) s.events
  pub unnamed : Any (λ e. Contains (items_of e.body) u.item) t.events → ⊥

-- two of the sites did
abbrev pub IsUnseen : List SiteEvents → UnseenItem → Type 0
IsUnseen sites u = ByOne sites (λ s. ByOne sites (IsUnseenBetween s)) u

-- an item that is shipped from a site, if no event of the other one names it
abbrev pub IsUnseenOf : ℕ → SiteEvents → List ℕ → UnseenItem → Type 0
IsUnseenOf from t item u = (Any (λ e. Contains (items_of e.body) item) t.events → ⊥) × (record { site = t.me; item = item; from = from } ≡ u)
