-- What is held with more items, and when two quarantines are equal.
use Rattle.std.proofs.Common.{◌≡◌, ◌≢◌, ◌⊎◌, ◌↔◌, inl, inr, ℕ, Bool, true, false, IsTrue, List, [], ◌∷◌, Option, Some, None, refl, sym, ap, subst, ◌∙◌}
use Rattle.std.specs.Prelude.{is_some}
use Rattle.std.specs.List.{Contains}
use Rattle.std.specs.FinMap.{get, same_map}
use Rattle.frame_core.specs.Numbers.{Recall}
use Rattle.frame_core.specs.Orders.{recall_total, recall_exact}
use Rattle.frame_core.proofs.Lookups.{one_key, get_here, get_apart}
use Rattle.trace_core.proofs.Members.{contains_here, contains_there, contains_cases, contains_none}
use Rattle.site_core.specs.ItemSets as set
use Rattle.site_core.specs.ItemSets.{Items}
use Rattle.site_core.specs.Quarantines.{Quarantine, items_under, or_none, held, with_item, with_items, HasNoEmptySet}
use Rattle.site_core.proofs.Held.{under_here, under_apart, no_empty_with}
use Rattle.site_core.proofs.ItemOrder.{item_total, item_exact}

abbrev IsHeld : Quarantine → Recall → List ℕ → Type 0
IsHeld q r i = IsTrue (held q r i)

pub among_here : (items : Items) (i : List ℕ) → set.contains (set.insert items i) i ≡ true
among_here items i = ap is_some (get_here item_total item_exact items i tt)

pub among_apart : (items : Items) (i j : List ℕ) → j ≢ i → set.contains (set.insert items i) j ≡ set.contains items j
among_apart items i j ne = ap is_some (get_apart item_total item_exact items i tt j ne)

pub held_one : (q : Quarantine) (r : Recall) (i : List ℕ) (s : Recall) (j : List ℕ) → IsHeld (with_item q r i) s j ↔ (((s ≡ r) × (j ≡ i)) ⊎ IsHeld q s j)
held_one q r i s j = (there, back)
  where
    there : IsHeld (with_item q r i) s j → ((s ≡ r) × (j ≡ i)) ⊎ IsHeld q s j
    there is = elim (one_key recall_total recall_exact s r) [
      | inr ne ↦ inr (sym (ap (λ items. set.contains items j) (under_apart q r _ s ne)) ∙ is)
      | inl same ↦ elim (one_key item_total item_exact j i) [
        | inl one ↦ inl (same, one)
        | inr ne ↦
            let here : set.contains (set.insert (items_under q r) i) j ≡ true = sym (ap (λ items. set.contains items j) (under_here q r _)) ∙ subst (λ t. IsHeld (with_item q r i) t j) same is in
            inr (subst (λ t. IsHeld q t j) (sym same) (sym (among_apart (items_under q r) i j ne) ∙ here))
      ]
    ]

    new : IsHeld (with_item q r i) r i
    new = ap (λ items. set.contains items i) (under_here q r _) ∙ among_here (items_under q r) i

    kept : IsHeld q s j → IsHeld (with_item q r i) s j
    kept is = elim (one_key recall_total recall_exact s r) [
      | inr ne ↦ ap (λ items. set.contains items j) (under_apart q r _ s ne) ∙ is
      | inl same ↦ subst (λ t. IsHeld (with_item q r i) t j) (sym same) (elim (one_key item_total item_exact j i) [
        | inl one ↦ subst (IsHeld (with_item q r i) r) (sym one) new
        | inr ne ↦ ap (λ items. set.contains items j) (under_here q r _) ∙ among_apart (items_under q r) i j ne ∙ subst (λ t. IsHeld q t j) same is
      ])
    ]

    back : ((s ≡ r) × (j ≡ i)) ⊎ IsHeld q s j → IsHeld (with_item q r i) s j
    back (inl at) = subst (λ t. IsHeld (with_item q r i) t j) (sym at.0) (subst (IsHeld (with_item q r i) r) (sym at.1) new)
    back (inr is) = kept is

pub held_several : (q : Quarantine) (r : Recall) (items : List (List ℕ)) (s : Recall) (j : List ℕ) → IsHeld (with_items q r items) s j ↔ (((s ≡ r) × Contains items j) ⊎ IsHeld q s j)
held_several q r [] s j = (λ is. inr is, λ either. elim either [ inl at ↦ absurd (contains_none j at.1) | inr is ↦ is ])
held_several q r (i ∷ items) s j =
    let rest = held_several (with_item q r i) r items s j in
    let one = held_one q r i s j in (
      λ is. elim (rest.0 is) [
        | inl at ↦ inl (at.0, contains_there i j items at.1)
        | inr before ↦ elim (one.0 before) [
          | inl at ↦ inl (at.0, subst (Contains (i ∷ items)) (sym at.1) (contains_here i items))
          | inr is ↦ inr is
        ]
      ],
      λ either. rest.1 (elim either [
        | inr is ↦ inr (one.1 (inr is))
        | inl at ↦ elim (contains_cases i j items at.1) [
          | inl here ↦ inr (one.1 (inl (at.0, sym here)))
          | inr later ↦ inl (at.0, later)
        ]
      ]),
    )

pub no_empty_after : (q : Quarantine) (r : Recall) (items : List (List ℕ)) → HasNoEmptySet q → HasNoEmptySet (with_items q r items)
no_empty_after q r [] full = full
no_empty_after q r (i ∷ items) full = no_empty_after (with_item q r i) r items (no_empty_with q r i full)

-- two tests that agree
agree : (a b : Bool) → IsTrue a ↔ IsTrue b → a ≡ b
agree true b both = sym (both.0 refl)
agree false true both = both.1 refl
agree false false both = refl

same_mark : (x y : Option (Unit {0})) → is_some x ≡ is_some y → x ≡ y
same_mark None None e = refl
same_mark None (Some b) e = cc
same_mark (Some a) None e = cc
same_mark (Some a) (Some b) e = refl

same_items : (a b : Items) → ((i : List ℕ) → set.contains a i ≡ set.contains b i) → a ≡ b
same_items a b is = same_map item_total item_exact a b (λ i. same_mark (get a i) (get b i) (is i))

-- a set that is kept is the one that is found
same_set_found : (x y : Option Items) → x ≢ Some set.empty → y ≢ Some set.empty → or_none x ≡ or_none y → x ≡ y
same_set_found None None p q e = refl
same_set_found None (Some b) p q e = absurd (q (ap Some (sym e)))
same_set_found (Some a) None p q e = absurd (p (ap Some e))
same_set_found (Some a) (Some b) p q e = ap Some e

pub held_is_all : (p q : Quarantine) → HasNoEmptySet p → HasNoEmptySet q → ((r : Recall) (i : List ℕ) → IsHeld p r i ↔ IsHeld q r i) → p ≡ q
held_is_all p q full_p full_q is = same_map recall_total recall_exact p q (λ r.
    same_set_found (get p r) (get q r) (full_p r) (full_q r) (same_items (items_under p r) (items_under q r) (λ i. agree (held p r i) (held q r i) (is r i))))
