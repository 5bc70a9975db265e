-- The items of a list that aren't held yet.
use Rattle.std.proofs.Common.{◌≡◌, ◌↔◌, ℕ, Bool, true, false, not, cond, List, [], ◌∷◌, filter, refl, sym, subst, ⊎_elim}
use Rattle.std.specs.Prelude.{IsTrue}
use Rattle.std.specs.List.{Contains}
use Rattle.std.proofs.lemmas.Bool.Decides.{Decides-not}
use Rattle.std.proofs.lemmas.List.Kept.{IsStrictlySortedBy-filter}
use Rattle.frame_core.specs.Numbers.{Recall}
use Rattle.trace_core.specs.Sites.{SiteEvents}
use Rattle.trace_core.specs.Spreads.{AreAscendingItems, IsSpread}
use Rattle.trace_core.proofs.Members.{contains_here, contains_there, contains_cases, contains_none}
use Rattle.site_core.specs.Quarantines.{Quarantine, item_cmp, held}
use Rattle.site_core.specs.Spreading.{AreNewlyHeld}

module _ {X : Type 0} (p : X → Bool) where
  passing : (xs : List X) (y : X) → Contains (filter p xs) y → Contains xs y × (p y ≡ true)
  passing [] y there = absurd (contains_none y there)
  passing (x ∷ xs) y there =
      let later : Contains (filter p xs) y → Contains (x ∷ xs) y × (p y ≡ true) = λ c. let (is, passes) = passing xs y c in (contains_there x y xs is, passes) in
      elim (p x) as (λ b. p x ≡ b → Contains (cond b (x ∷ filter p xs) (filter p xs)) y → Contains (x ∷ xs) y × (p y ≡ true)) [
        | true ↦ λ h c. ⊎_elim
            (λ same. (subst (λ z. Contains (x ∷ xs) z) same (contains_here x xs), subst (λ z. p z ≡ true) same h))
            later
            (contains_cases x y (filter p xs) c)
        | false ↦ λ h c. later c
      ] refl there

  more : (x : X) (xs : List X) (y : X) → Contains (filter p xs) y → Contains (filter p (x ∷ xs)) y
  more x xs y c = elim (p x) as (λ b. Contains (cond b (x ∷ filter p xs) (filter p xs)) y) [
    | true ↦ contains_there x y (filter p xs) c
    | false ↦ c
  ]

  is_kept : (xs : List X) (y : X) → Contains xs y → p y ≡ true → Contains (filter p xs) y
  is_kept [] y there passes = absurd (contains_none y there)
  is_kept (x ∷ xs) y there passes = ⊎_elim
      (λ same. let first : p x ≡ true = subst (λ z. p z ≡ true) (sym same) passes in
      subst (λ b. Contains (cond b (x ∷ filter p xs) (filter p xs)) y) (sym first) (subst (λ z. Contains (x ∷ filter p xs) z) same (contains_here x (filter p xs))))
      (λ later. more x xs y (is_kept xs y later passes))
      (contains_cases x y xs there)

-- one that isn't held is left
pub kept_new : (q : Quarantine) (r : Recall) (found out : List (List ℕ)) → out ≡ filter (λ j. not (held q r j)) found → (j : List ℕ) → Contains found j → (IsTrue (held q r j) → ⊥) → Contains out j
kept_new q r found out is j there free = subst (λ xs. Contains xs j) (sym is) (is_kept (λ j. not (held q r j)) found j there ((Decides-not (held q r j) (λ h. h, λ h. h)).1 free))

-- those of the spread that aren't held
pub newly : (s : SiteEvents) (q : Quarantine) (r : Recall) (i : List ℕ) (found out : List (List ℕ)) → AreAscendingItems found → ((j : List ℕ) → (IsTrue (held q r j) → ⊥) → Contains found j ↔ IsSpread s (i ∷ []) j)
    → out ≡ filter (λ j. not (held q r j)) found → AreNewlyHeld s q r i out
newly s q r i found out up exact is = record {
  ascending = subst AreAscendingItems (sym is) (IsStrictlySortedBy-filter item_cmp (λ j. not (held q r j)) found up);
  exact = λ j.
      let fresh = Decides-not (held q r j) (λ h. h, λ h. h) in (
        λ h. let (there, passes) = passing (λ j. not (held q r j)) found j (subst (λ xs. Contains xs j) is h) in ((exact j (fresh.0 passes)).0 there, fresh.0 passes),
        λ (spread, not_held). subst (λ xs. Contains xs j) (sym is) (is_kept (λ j. not (held q r j)) found j ((exact j not_held).1 spread) (fresh.1 not_held)),
      );
}
