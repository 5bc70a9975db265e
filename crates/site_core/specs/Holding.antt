-- How items come under a recall, and go again.
use Rattle.std.specs.Prelude.{ℕ, ◌==◌, if◌then◌else◌, List, [], ◌∷◌}
use Rattle.std.specs.FinMap as map
use Rattle.frame_core.specs.Numbers.{Recall}
use Rattle.site_core.specs.ItemSets as set
use Rattle.site_core.specs.ItemSets.{Items}
use Rattle.site_core.specs.Quarantines.{Quarantine, items_under}

-- with just these items under the recall; a recall without items isn't kept
abbrev pub with_set : Quarantine → Recall → Items → Quarantine
with_set q r items = if set.len items == 0 then map.remove q r else map.insert q r items

-- without one item under the recall
abbrev pub without_item : Quarantine → Recall → List ℕ → Quarantine
without_item q r i = with_set q r (set.remove (items_under q r) i)

-- without these items, the last one first
abbrev pub without_items : Quarantine → Recall → List (List ℕ) → Quarantine
without_items q r [] = q
without_items q r (i ∷ items) = without_item (without_items q r items) r i
