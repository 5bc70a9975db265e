-- What is quarantined at a site: for each recall a set of items.
use Rattle.std.specs.Prelude.{◌≡◌, ◌≢◌, ℕ, Bool, false, List, [], ◌∷◌, Option, Some, None, IsTrue}
use Rattle.std.specs.Coded.{Coded}
use Rattle.std.specs.FinMap as map
use Rattle.std.specs.Ordering.{is_gt}
use Rattle.frame_core.specs.Identifiers.{recall_cmp}
use Rattle.frame_core.specs.Numbers.{Recall, coded_recall}
pub use Rattle.site_core.specs.ItemSets.{item_cmp, Items}
use Rattle.site_core.specs.ItemSets as set
use Rattle.site_core.specs.ItemSets.{coded_items}

abbrev pub Quarantine : Type 0
Quarantine = map.FinMap recall_cmp Items

abbrev pub coded_quarantine : Coded Quarantine
coded_quarantine = map.code coded_recall coded_items

-- the items of an answer, none where there is none
abbrev pub or_none : Option Items → Items
or_none None = set.empty
or_none (Some items) = items

-- the items that are quarantined under the recall
abbrev pub items_under : Quarantine → Recall → Items
items_under q r = or_none (map.get q r)

-- the item is quarantined under the recall
abbrev pub held : Quarantine → Recall → List ℕ → Bool
held q r i = set.contains (items_under q r) i

-- the least recall under which the item is quarantined; or it is so under none
abbrev pub IsLeastHolder : Quarantine → List ℕ → Option Recall → Type 0
IsLeastHolder q i None = (r : Recall) → IsTrue (held q r i) → ⊥
IsLeastHolder q i (Some r) = IsTrue (held q r i) × ((other : Recall) → IsTrue (held q other i) → is_gt (recall_cmp r other) ≡ false)

-- with one more item under the recall
abbrev pub with_item : Quarantine → Recall → List ℕ → Quarantine
with_item q r i = map.insert q r (set.insert (items_under q r) i)

-- with these items under the recall
abbrev pub with_items : Quarantine → Recall → List (List ℕ) → Quarantine
with_items q r [] = q
with_items q r (i ∷ items) = with_items (with_item q r i) r items

-- each recall that is kept has an item
abbrev pub HasNoEmptySet : Quarantine → Type 0
HasNoEmptySet q = (r : Recall) → map.get q r ≢ Some set.empty
