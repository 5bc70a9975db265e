-- Keys in order, without repeats.
use Rattle.std.proofs.Common.{◌≡◌, ◌<◌, ◌+◌, ℕ, Bool, List, [], ◌∷◌, length, get_or, ◌↔◌, sym, ◌∙◌, subst}
use Rattle.std.specs.Cmp.{IsEquivalence, IsTotalOrder}
use Rattle.std.specs.List.{Contains}
use Rattle.std.specs.List.Retain.{DiffersFromLast, IsFiltered}
use Rattle.std.specs.List.Sorted.{IsPermutation, IsSorted, IsStrictlySortedBy}
use Rattle.std.specs.Ordering.{eq_by_cmp}
use Rattle.std.specs.declared.cmp.Ordering.{Ordering}
use Rattle.std.specs.declared.cmp.Ordering.TheVariants.{Less}
use Rattle.std.proofs.lemmas.List.Filters.{dedup_is}
use Rattle.std.proofs.lemmas.List.Kept.{Contains-dedup, Contains-from_dedup, IsStrictlySortedBy-dedup}
use Rattle.std.proofs.lemmas.List.Sorted.{Contains-permutation, IsPermutation-sym}
use Rattle.std.proofs.lemmas.Map.Keys.{sorted_from_all_adjacent}
use Rattle.std.proofs.lemmas.Map.Lookups.{CmpEqualImpliesEq}
use Rattle.std.proofs.lemmas.Map.Views.{tells_apart}

module _ {K : Type 0} (R : K → K → Ordering) (total : IsTotalOrder R) where
  -- each key is below the next
  pub each_below : (ks : List K) → ((k : ℕ) (d : K) → k + 1 < length ks → R (get_or ks k d) (get_or ks (k + 1) d) ≡ Less) → IsStrictlySortedBy R ks
  unfolding IsStrictlySortedBy
  each_below [] below = tt
  each_below (x ∷ xs) below = sorted_from_all_adjacent total (x ∷ xs) x (λ k lt. below k x lt)

  module _ (E : K → K → Bool) (laws : IsEquivalence E) (ties : (x y : K) → E x y ≡ eq_by_cmp R x y) (keys sorted kept : List K) (moved : IsPermutation keys sorted) (filtered : IsFiltered (DiffersFromLast E) [] sorted kept) where
    -- sorted, and repeats dropped
    pub kept_ascend : IsSorted R sorted → IsStrictlySortedBy R kept
    kept_ascend in' = subst (IsStrictlySortedBy R) (sym (dedup_is E sorted kept filtered)) (IsStrictlySortedBy-dedup total ties sorted in')

    pub kept_same : CmpEqualImpliesEq R → (k : K) → Contains kept k ↔ Contains keys k
    kept_same exact k = (
      λ h. Contains-permutation sorted keys k (IsPermutation-sym keys sorted moved) (Contains-from_dedup E sorted k (subst (λ ks. Contains ks k) (dedup_is E sorted kept filtered) h)),
      λ h. subst (λ ks. Contains ks k) (sym (dedup_is E sorted kept filtered)) (Contains-dedup laws (λ x y same. tells_apart exact x y (sym (ties x y) ∙ same)) sorted k (Contains-permutation keys sorted k moved h)),
    )
