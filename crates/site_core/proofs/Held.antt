-- What is held under the recalls of a quarantine after a change.
use Rattle.std.proofs.Common.{◌≡◌, ◌≢◌, inl, inr, ℕ, suc, ◌+◌, ◌<◌, Bool, true, false, not, drop, length, get_or, List, [], ◌∷◌, ◌++◌, Option, Some, None, refl, sym, ap, ◌∙◌, arith}
use Rattle.std.specs.Prelude.{is_some, ◌==◌, if◌then◌else◌}
use Rattle.std.specs.FinMap.{get, insert, remove, get-empty, len-empty, empty_of_len}
use Rattle.std.proofs.Math.Seq.{drop-cons}
use Rattle.std.proofs.lemmas.Bool.Decides.{nat_tests}
use Rattle.frame_core.specs.Numbers.{Recall}
use Rattle.frame_core.specs.Orders.{recall_total, recall_exact}
use Rattle.frame_core.proofs.Lookups.{one_key, get_here, get_apart, get_gone, get_left}
use Rattle.frame_core.proofs.Maps.{none_found, remove_none, removed_again}
use Rattle.site_core.specs.Holding.{with_set, without_item, without_items}
use Rattle.site_core.specs.ItemSets as set
use Rattle.site_core.specs.ItemSets.{Items, item_cmp}
use Rattle.site_core.specs.Quarantines.{Quarantine, items_under, or_none, held, with_item, with_items, HasNoEmptySet}
use Rattle.site_core.proofs.Changes.{insert_same, insert_twice}
use Rattle.site_core.proofs.ItemOrder.{item_total, item_exact}

-- the items under the recall, and under another one
pub under_here : (q : Quarantine) (r : Recall) (items : Items) → items_under (insert q r items) r ≡ items
under_here q r items = ap or_none (get_here recall_total recall_exact q r items)

pub under_apart : (q : Quarantine) (r : Recall) (items : Items) (s : Recall) → s ≢ r → items_under (insert q r items) s ≡ items_under q s
under_apart q r items s ne = ap or_none (get_apart recall_total recall_exact q r items s ne)

-- under a recall that isn't kept there is no item
pub none_held : (q : Quarantine) (r : Recall) (i : List ℕ) → get q r ≡ None → held q r i ≡ false
none_held q r i none = ap (λ found. set.contains (or_none found) i) none ∙ ap is_some (get-empty item_cmp i)

there : (found : Option (Unit {0})) → is_some found ≡ true → found ≡ Some tt
there None e = cc
there (Some a) e = refl

-- an item that is held already changes nothing
pub with_held : (q : Quarantine) (r : Recall) (i : List ℕ) → held q r i ≡ true → with_item q r i ≡ q
with_held q r i is = by_recall (get q r) refl
  where
    by_recall : (found : Option Items) → get q r ≡ found → with_item q r i ≡ q
    by_recall None has = let not_held = none_held q r i has in let twice : true ≡ false = sym is ∙ not_held in cc
    by_recall (Some items) has =
        let among : get items i ≡ Some tt = there (get items i) (sym (ap (λ found. set.contains (or_none found) i) has) ∙ is) in
        ap (λ found. insert q r (set.insert (or_none found) i)) has
        ∙ ap (insert q r) (insert_same item_total item_exact items i tt among)
        ∙ insert_same recall_total recall_exact q r items has

-- one item more or less leaves no recall without items
holds_some : (items : Items) (i : List ℕ) → set.insert items i ≢ set.empty
holds_some items i is =
    let twice : Some tt ≡ None = sym (get_here item_total item_exact items i tt) ∙ ap (λ s. get s i) is ∙ get-empty item_cmp i in cc

pub no_empty_with : (q : Quarantine) (r : Recall) (i : List ℕ) → HasNoEmptySet q → HasNoEmptySet (with_item q r i)
no_empty_with q r i full s is = elim (one_key recall_total recall_exact s r) [
  | inl same ↦
      let here : Some (set.insert (items_under q r) i) ≡ Some set.empty = sym (get_here recall_total recall_exact q r _) ∙ ap (get (with_item q r i)) (sym same) ∙ is in
      let none : set.insert (items_under q r) i ≡ set.empty = cc in
      holds_some (items_under q r) i none
  | inr ne ↦ full s (sym (get_apart recall_total recall_exact q r _ s ne) ∙ is)
]

no_items : (items : Items) → items ≡ set.empty → (set.len items == 0) ≡ true
no_items items is = ap (λ s. set.len s == 0) is ∙ ap (λ n. n == 0) (len-empty item_cmp (Unit {0}))

pub no_length : (n : ℕ) → (n == 0) ≡ true → n ≡ 0
no_length n h = grind (arith, nat_tests)

some_items : (items : Items) → items ≢ set.empty → (set.len items == 0) ≡ false
some_items items some = elim (set.len items == 0) as (λ b. (set.len items == 0) ≡ b → b ≡ false) [
  | true ↦ λ e. absurd (some (empty_of_len items (no_length (set.len items) e)))
  | false ↦ λ e. refl
] refl

pub no_empty_set : (q : Quarantine) (r : Recall) (items : Items) → HasNoEmptySet q → HasNoEmptySet (with_set q r items)
no_empty_set q r items full s = elim (set.len items == 0) as (λ b. (set.len items == 0) ≡ b → get (if b then remove q r else insert q r items) s ≢ Some set.empty) [
  | true ↦ λ none is. elim (one_key recall_total recall_exact s r) [
    | inl same ↦ let twice : None ≡ Some set.empty = sym (get_gone recall_total recall_exact q r) ∙ ap (get (remove q r)) (sym same) ∙ is in cc
    | inr ne ↦ full s (sym (get_left recall_total recall_exact q r s ne) ∙ is)
  ]
  | false ↦ λ some is. elim (one_key recall_total recall_exact s r) [
    | inl same ↦
        let here : Some items ≡ Some set.empty = sym (get_here recall_total recall_exact q r items) ∙ ap (get (insert q r items)) (sym same) ∙ is in
        let none : items ≡ set.empty = cc in
        let twice : true ≡ false = sym (no_items items none) ∙ some in cc
    | inr ne ↦ full s (sym (get_apart recall_total recall_exact q r items s ne) ∙ is)
  ]
] refl

-- a new item goes again
pub released_again : (q : Quarantine) (r : Recall) (i : List ℕ) → HasNoEmptySet q → held q r i ≡ false → without_item (with_item q r i) r i ≡ q
released_again q r i full new =
    ap (λ items. with_set (with_item q r i) r (set.remove items i)) (under_here q r (set.insert (items_under q r) i))
    ∙ ap (with_set (with_item q r i) r) (removed_again item_total item_exact (items_under q r) i tt (none_found (get (items_under q r) i) new))
    ∙ by_recall (get q r) refl
  where
    by_recall : (found : Option Items) → get q r ≡ found → with_set (with_item q r i) r (items_under q r) ≡ q
    by_recall None has =
        ap (λ items. with_set (insert q r (set.insert items i)) r items) (ap or_none has)
        ∙ ap (λ b. if b then remove (insert q r (set.insert set.empty i)) r else insert (insert q r (set.insert set.empty i)) r set.empty) (no_items set.empty refl)
        ∙ removed_again recall_total recall_exact q r (set.insert set.empty i) has
    by_recall (Some items) has =
        ap (λ items. with_set (insert q r (set.insert items i)) r items) (ap or_none has)
        ∙ ap (λ b. if b then remove (insert q r (set.insert items i)) r else insert (insert q r (set.insert items i)) r items) (some_items items (λ none. full r (has ∙ ap Some none)))
        ∙ insert_twice recall_total recall_exact q r (set.insert items i) items
        ∙ insert_same recall_total recall_exact q r items has

-- to take items away is to take the last one away, and then the others
pub without_last : (q : Quarantine) (r : Recall) (items : List (List ℕ)) (i : List ℕ) → without_items q r (items ++ i ∷ []) ≡ without_items (without_item q r i) r items
without_last q r [] i = refl
without_last q r (j ∷ items) i = ap (λ p. without_item p r j) (without_last q r items i)

-- once the last one is taken away, the others are to be taken away
pub released_last : (q left start : Quarantine) (r : Recall) (items rest : List (List ℕ)) (i : List ℕ) → left ≡ without_item q r i → items ≡ rest ++ i ∷ []
    → without_items q r items ≡ start → without_items left r rest ≡ start
released_last q left start r items rest i is last were =
    ap (λ p. without_items p r rest) is ∙ sym (without_last q r rest i) ∙ ap (without_items q r) (sym last) ∙ were

-- under a recall that isn't kept there is nothing to take away
pub without_none : (q : Quarantine) (r : Recall) (i : List ℕ) → get q r ≡ None → without_item q r i ≡ q
without_none q r i none =
    let nothing : set.remove (items_under q r) i ≡ set.empty =
    ap (λ found. set.remove (or_none found) i) none ∙ remove_none item_total item_exact set.empty i (get-empty item_cmp i) in
    ap (with_set q r) nothing
    ∙ ap (λ b. if b then remove q r else insert q r set.empty) (no_items set.empty refl)
    ∙ remove_none recall_total recall_exact q r none

-- without the last one of its items, or with those that are left
pub without_some : (q : Quarantine) (r : Recall) (i : List ℕ) (items : Items) (b : Bool) → get q r ≡ Some items → b ≡ (set.len (set.remove items i) == 0)
    → without_item q r i ≡ (if b then remove q r else insert q r (set.remove items i))
without_some q r i items b has is =
    ap (λ found. with_set q r (set.remove (or_none found) i)) has
    ∙ ap (λ b. if b then remove q r else insert q r (set.remove items i)) (sym is)

-- once the next item is held, the rest is to be held
pub held_next : (q : Quarantine) (r : Recall) (items : List (List ℕ)) (place : ℕ) (i : List ℕ) → place < length items → i ≡ get_or items place i
    → with_items (with_item q r i) r (drop (place + 1) items) ≡ with_items q r (drop place items)
held_next q r items place i lt is =
    let next : place + 1 ≡ suc place = omega arith in
    let here : drop place items ≡ i ∷ drop (suc place) items = drop-cons items place i lt ∙ ap (λ j. j ∷ drop (suc place) items) (sym is) in
    ap (λ k. with_items (with_item q r i) r (drop k items)) next ∙ ap (with_items q r) (sym here)

-- a new item that is taken away last is taken away first
pub undone_new : (q : Quarantine) (r : Recall) (items : List (List ℕ)) (i : List ℕ) → HasNoEmptySet q → not (held q r i) ≡ true
    → without_items (with_item q r i) r (items ++ i ∷ []) ≡ without_items q r items
undone_new q r items i full new = without_last (with_item q r i) r items i ∙ ap (λ p. without_items p r items) (released_again q r i full (turned (held q r i) new))
  where
    turned : (b : Bool) → not b ≡ true → b ≡ false
    turned false e = refl
    turned true e = cc

-- and one that was held changes nothing
pub undone_held : (q : Quarantine) (r : Recall) (items : List (List ℕ)) (i : List ℕ) → not (held q r i) ≡ false → without_items (with_item q r i) r items ≡ without_items q r items
undone_held q r items i old = ap (λ p. without_items p r items) (with_held q r i (turned (held q r i) old))
  where
    turned : (b : Bool) → not b ≡ false → b ≡ true
    turned true e = refl
    turned false e = cc
