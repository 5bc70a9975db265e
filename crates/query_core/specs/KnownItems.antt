-- The items that a site knows, and how many of its events name them.
use Rattle.std.specs.Prelude.{◌≡◌, ℕ, List, ◌++◌, count_by}
use Rattle.std.specs.declared.cmp.Ordering.{Ordering}
use Rattle.event_json.specs.Events.{Content}
use Rattle.trace_core.specs.PairTests.{lists}
use Rattle.trace_core.specs.Spreads.{items_of}
use Rattle.site_core.specs.ItemSets.{item_cmp}
use Rattle.site_core.specs.Records.{Record}
use Rattle.site_core.specs.Spreading.{IsKnownItem}
use Rattle.query_core.specs.Lists.{AreAllBy}
use Rattle.query_core.specs.declared.known_items.KnownItem.{KnownItem}

-- the text stands in the item's key, in whatever place
abbrev pub IsInside : List ℕ → List ℕ → Type 0
IsInside text item = (front : List ℕ) × (behind : List ℕ) × (item ≡ front ++ text ++ behind)

-- how many of the events name the item; one that names it twice counts once
abbrev pub events_naming : List Content → List ℕ → ℕ
events_naming events item = count_by (λ e. lists (items_of e.body) item) events

-- the site knows the item, the text stands in its key, and so many events name it
pub record IsKnownWith (r : Record) (text : List ℕ) (item : KnownItem) : Type 0 where
  pub known : IsKnownItem r.captured r.quarantine item.item
  pub inside : IsInside text item.item
  pub events : item.events ≡ events_naming r.captured.events item.item

-- by the items' keys
abbrev pub known_cmp : KnownItem → KnownItem → Ordering
known_cmp a b = item_cmp a.item b.item

-- all of these, by item
abbrev pub AreKnownItems : Record → List ℕ → List KnownItem → Type 0
AreKnownItems r text items = AreAllBy known_cmp (IsKnownWith r text) items
