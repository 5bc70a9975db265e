-- A quarantine as the list of its pairs of a recall and an item, by recall and item.
use Rattle.std.specs.Prelude.{◌≡◌, ℕ, ⊤, List, [], ◌∷◌, ◌++◌, map, flat_map}
use Rattle.std.specs.FinMap.{entries}
use Rattle.std.specs.Ordering.{ordering_then}
use Rattle.std.specs.declared.cmp.Ordering.{Ordering}
use Rattle.frame_core.specs.Identifiers.{recall_cmp}
use Rattle.frame_core.specs.Numbers.{Recall}
use Rattle.site_core.specs.ItemSets as set
use Rattle.site_core.specs.ItemSets.{Items, item_cmp}
use Rattle.site_core.specs.Quarantines.{Quarantine}

-- by recall, then item
abbrev pub held_cmp : Recall × List ℕ → Recall × List ℕ → Ordering
held_cmp a b = ordering_then (recall_cmp a.0 b.0) (item_cmp a.1 b.1)

-- an entry without a value
abbrev pub Held : Type 0
Held = (Recall × List ℕ) × ⊤

abbrev pub held_of : Recall → List ℕ → Held
held_of r i = ((r, i), tt)

abbrev pub held_under : Recall × Items → List Held
held_under e = map (held_of e.0) (set.items e.1)

abbrev pub all_held : Quarantine → List Held
all_held q = flat_map held_under (entries q)

-- x is the last of xs
pub record IsLast {X : Type 0} (xs : List X) (x : X) : Type 0 where
  pub front : List X
  pub parts : xs ≡ front ++ x ∷ []
