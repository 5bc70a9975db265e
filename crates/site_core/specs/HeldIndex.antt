-- An index beside a quarantine: for each item the recalls that hold it.
use Rattle.std.specs.Prelude.{◌≡◌, ℕ, Bool, false, List, Option, Some, None}
use Rattle.std.specs.BTreeMap.{BTreeMap, get}
use Rattle.std.specs.BTreeSet.{BTreeSet, contains}
use Rattle.frame_core.specs.Identifiers.{recall_cmp}
use Rattle.frame_core.specs.Numbers.{Recall}
use Rattle.site_core.specs.Quarantines.{Quarantine, held, item_cmp}

abbrev pub Index : Type 0
Index = BTreeMap (List ℕ) (BTreeSet Recall)

-- whether a recall is among those that are found, if any are
abbrev pub has : Option (BTreeSet Recall) → Recall → Bool
has None r = false
has (Some recalls) r = contains recall_cmp recalls r

-- whether the index has the recall at the item
abbrev pub notes : Index → List ℕ → Recall → Bool
notes index i r = has (get item_cmp index i) r

-- it is so of this item and recall, and of others what it was
abbrev pub Sets : (List ℕ → Recall → Bool) → (List ℕ → Recall → Bool) → List ℕ → Recall → Bool → Type 0
Sets old new i r is = (new i r ≡ is) × ((j : List ℕ) (s : Recall) → ((j ≡ i) × (s ≡ r) → ⊥) → new j s ≡ old j s)

-- at each item the index has just the recalls that hold it
abbrev pub IsIndex : Index → Quarantine → Type 0
IsIndex index q = (i : List ℕ) (r : Recall) → notes index i r ≡ held q r i
