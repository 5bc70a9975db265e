-- What each item of each set passes, each quarantined item passes.
use Rattle.std.proofs.Common.{◌≡◌, ◌↔◌, ℕ, Bool, true, List, Some, None, is_some, refl, sym, ap, ◌∙◌, subst}
use mathlib.Core.Bool.{false≢true}
use Rattle.std.specs.FinMap.{get}
use Rattle.std.specs.FinMap as finite
use Rattle.std.specs.List.{Contains}
use Rattle.std.specs.Prelude.{IsTrue}
use Rattle.frame_core.specs.Numbers.{Recall}
use Rattle.site_core.specs.ItemSets.{Items}
use Rattle.site_core.specs.ItemSets as set
use Rattle.site_core.specs.Quarantines.{Quarantine, held, or_none}
use Rattle.site_core.proofs.Held.{none_held}
use Rattle.site_core.proofs.ItemOrder.{item_total, item_exact}
use Rattle.trace_core.proofs.Members.{contains-map}
use Rattle.trace_core.proofs.SetMembers.{contains-from_map}
use Rattle.site_core.proofs.Entries.{entry_found, entry_there}

-- an item is in a set where it is one of the set's items
listed : (items : Items) (i : List ℕ) → IsTrue (set.contains items i) → Contains (set.items items) i
listed items i h = elim (get items i) as (λ found. get items i ≡ found → is_some found ≡ true → Contains (set.items items) i) [
  | None ↦ λ _ some. absurd (false≢true some)
  | Some u ↦ λ is _. contains-map (λ e. e.0) (finite.entries items) (i, u) (entry_there item_total item_exact items i u is)
] refl h

in_set : (items : Items) (i : List ℕ) → Contains (set.items items) i → IsTrue (set.contains items i)
in_set items i at =
    let (e, among, same) = contains-from_map (λ e. e.0) (finite.entries items) i at in
    subst (λ j. IsTrue (set.contains items j)) same (ap is_some (entry_found item_total items e.0 e.1 among))

pub each_item : (items : Items) (keys : List (List ℕ)) → keys ≡ set.items items → (P : List ℕ → Type 0) (b : Bool)
    → (IsTrue b ↔ ((i : List ℕ) → Contains keys i → P i)) → IsTrue b ↔ ((i : List ℕ) → IsTrue (set.contains items i) → P i)
each_item items keys same P b decides = (
  λ h i is. decides.0 h i (subst (λ ks. Contains ks i) (sym same) (listed items i is)),
  λ all. decides.1 (λ i at. all i (in_set items i (subst (λ ks. Contains ks i) same at))),
)

pub held_is : (q : Quarantine) (r : Recall) (items : Items) (i : List ℕ) → get q r ≡ Some items → held q r i ≡ set.contains items i
held_is q r items i is = ap (λ found. set.contains (or_none found) i) is

pub kept_set : (q : Quarantine) (r : Recall) (i : List ℕ) → IsTrue (held q r i) → (items : Items) × (get q r ≡ Some items)
kept_set q r i h = elim (get q r) as (λ found. get q r ≡ found → (items : Items) × (get q r ≡ Some items)) [
  | None ↦ λ none. absurd (false≢true (sym (none_held q r i none) ∙ h))
  | Some items ↦ λ is. (items, is)
] refl

-- what each item of each set passes, each item passes that is held
pub each_held : (q : Quarantine) (P : Recall → List ℕ → Type 0) (b : Bool)
    → (IsTrue b ↔ ((r : Recall) (items : Items) → get q r ≡ Some items → (i : List ℕ) → IsTrue (set.contains items i) → P r i)) → IsTrue b ↔ ((r : Recall) (i : List ℕ) → IsTrue (held q r i) → P r i)
each_held q P b decides = (
  λ h r i is. let kept = kept_set q r i is in decides.0 h r kept.0 kept.1 i (sym (held_is q r kept.0 i kept.1) ∙ is),
  λ all. decides.1 (λ r items is i there. all r i (held_is q r items i is ∙ there)),
)
