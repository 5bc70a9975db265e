-- The recalls under which an item is held, among the entries of a quarantine.
use Rattle.std.proofs.Common.{◌≡◌, ◌↔◌, ℕ, Bool, true, false, cond, Some, List, [], ◌∷◌, ◌++◌, map, filter, refl, sym, ap, subst, ◌∙◌, ⊎_elim}
use Rattle.std.specs.Prelude.{T, IsTrue, is_some}
use mathlib.Core.Bool.{false≢true}
use Rattle.std.specs.FinMap.{find, is_sorted, entries, entries_sorted, get-entries, get-empty}
use Rattle.std.specs.FinMap.Entries.{below_all}
use Rattle.site_core.specs.ItemSets as set
use Rattle.std.specs.List.{AllByRecursion, Contains}
use Rattle.std.specs.Ordering.{is_lt, is_eq, ordering_reverse}
use Rattle.std.specs.declared.cmp.Ordering.{Ordering}
use Rattle.std.specs.declared.cmp.Ordering.TheVariants.{Less, Equal, Greater}
use Rattle.std.proofs.lemmas.Cmp.{tied_itself}
use Rattle.frame_core.specs.Identifiers.{recall_cmp}
use Rattle.frame_core.specs.Numbers.{Recall}
use Rattle.frame_core.specs.Orders.{recall_total, recall_exact}
use Rattle.frame_core.proofs.Ascending.{first, second}
use Rattle.trace_core.proofs.Members.{contains_here, contains_there, contains_cases, contains_none}
use Rattle.site_core.specs.Quarantines.{Items, Quarantine, item_cmp, or_none, held}
use Rattle.site_core.proofs.Ascending.{of_member}

less : (o : Ordering) → T (is_lt o) → o ≡ Less
less Less p = refl
less Equal p = absurd p
less Greater p = absurd p

pub append_nil : {X : Type 0} (xs : List X) → xs ++ [] ≡ xs
append_nil [] = refl
append_nil (x ∷ xs) = ap (λ ys. x ∷ ys) (append_nil xs)

module _ (i : List ℕ) where
  abbrev pub has : Recall × Items → Bool
  has e = set.contains e.1 i

  -- the recalls whose items have the item
  abbrev pub holding : List (Recall × Items) → List Recall
  holding es = map (λ e. e.0) (filter has es)

  all_above : (x : Recall) (es : List (Recall × Items)) → T (below_all recall_cmp x es) → AllByRecursion (λ y. recall_cmp x y ≡ Less) (holding es)
  all_above x [] h = tt
  all_above x (e ∷ es) h = elim (has e) as (λ b. AllByRecursion (λ y. recall_cmp x y ≡ Less) (map (λ (x : Recall × Items). x.0) (cond b (e ∷ filter has es) (filter has es)))) [
    | true ↦ (less _ (first _ _ h), all_above x es (second _ _ h))
    | false ↦ all_above x es (second _ _ h)
  ]

  abbrev Found : Recall → List (Recall × Items) → Type 0
  Found r es = set.contains (or_none (find recall_cmp r es)) i ≡ true

  found_here : (e : Recall × Items) (es : List (Recall × Items)) (r : Recall) → e.0 ≡ r → has e ≡ true → Found r (e ∷ es)
  found_here e es r same h =
      let tie : recall_cmp r e.0 ≡ Equal = subst (λ z. recall_cmp z e.0 ≡ Equal) same (tied_itself recall_total e.0) in
      ap (λ o. set.contains (or_none (cond (is_eq o) (Some e.1) (find recall_cmp r es))) i) tie ∙ h

  found_later : (e : Recall × Items) (es : List (Recall × Items)) (r : Recall) → recall_cmp e.0 r ≡ Less → Found r es → Found r (e ∷ es)
  found_later e es r below h =
      let above : recall_cmp r e.0 ≡ Greater = recall_total.antisymm r e.0 ∙ ap ordering_reverse below in
      ap (λ o. set.contains (or_none (cond (is_eq o) (Some e.1) (find recall_cmp r es))) i) above ∙ h

  to_found : (es : List (Recall × Items)) → T (is_sorted recall_cmp es) → (r : Recall) → Contains (holding es) r → Found r es
  to_found [] up r there = absurd (contains_none r there)
  to_found (e ∷ es) up r there =
      let later : Contains (holding es) r → Found r (e ∷ es) =
      λ c. found_later e es r (of_member (λ y. recall_cmp e.0 y ≡ Less) (holding es) (all_above e.0 es (first _ _ up)) r c) (to_found es (second _ _ up) r c) in
      elim (has e) as (λ b. has e ≡ b → Contains (map (λ (x : Recall × Items). x.0) (cond b (e ∷ filter has es) (filter has es))) r → Found r (e ∷ es)) [
        | true ↦ λ h c. ⊎_elim (λ same. found_here e es r same h) later (contains_cases e.0 r (holding es) c)
        | false ↦ λ h c. later c
      ] refl there

  more : (e : Recall × Items) (es : List (Recall × Items)) (r : Recall) → Contains (holding es) r → Contains (holding (e ∷ es)) r
  more e es r c = elim (has e) as (λ b. Contains (map (λ (x : Recall × Items). x.0) (cond b (e ∷ filter has es) (filter has es))) r) [
    | true ↦ contains_there e.0 r (holding es) c
    | false ↦ c
  ]

  holding_has : (e : Recall × Items) (es : List (Recall × Items)) → has e ≡ true → Contains (holding (e ∷ es)) e.0
  holding_has e es h = subst (λ b. Contains (map (λ (x : Recall × Items). x.0) (cond b (e ∷ filter has es) (filter has es))) e.0) (sym h) (contains_here e.0 (holding es))

  from_found : (es : List (Recall × Items)) (r : Recall) → Found r es → Contains (holding es) r
  from_found [] r h = absurd (false≢true (sym (ap is_some (get-empty item_cmp i)) ∙ h))
  from_found (e ∷ es) r h =
      elim (recall_cmp r e.0) as (λ o. recall_cmp r e.0 ≡ o → set.contains (or_none (cond (is_eq o) (Some e.1) (find recall_cmp r es))) i ≡ true → Contains (holding (e ∷ es)) r) [
        | Less ↦ λ t f. more e es r (from_found es r f)
        | Equal ↦ λ t f. subst (λ z. Contains (holding (e ∷ es)) z) (sym (recall_exact r e.0 t)) (holding_has e es f)
        | Greater ↦ λ t f. more e es r (from_found es r f)
      ] refl h

  pub holders_exact : (q : Quarantine) (r : Recall) → Contains (holding (entries q)) r ↔ IsTrue (held q r i)
  holders_exact q r =
      let same : set.contains (or_none (find recall_cmp r (entries q))) i ≡ held q r i = ap (λ o. set.contains (or_none o) i) (sym (get-entries q r)) in
      (λ c. sym same ∙ to_found (entries q) (entries_sorted q) r c, λ h. from_found (entries q) r (same ∙ h))
