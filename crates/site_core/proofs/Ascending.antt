-- Lists whose elements strictly rise.
use Rattle.std.proofs.Common.{◌≡◌, ◌≢◌, List, [], ◌∷◌, map, refl, ap, subst, ◌∙◌, ⊎_elim, ◌↔◌}
use Rattle.std.specs.BTreeSet.{BTreeSet}
use Rattle.std.specs.Cmp.{IsTotalOrder}
use Rattle.std.specs.List.{AllByRecursion, Contains}
use Rattle.std.specs.List.Sorted.{IsStrictlySortedBy}
use Rattle.std.specs.Ordering.{ordering_reverse}
use Rattle.std.specs.declared.cmp.Ordering.{Ordering}
use Rattle.std.specs.declared.cmp.Ordering.TheVariants.{Less, Equal, Greater}
use Rattle.std.proofs.lemmas.Bool.Decides.{same_from_decides}
use Rattle.std.proofs.lemmas.Cmp.{tied_itself}
use Rattle.std.proofs.lemmas.Map.Lookups.{CmpEqualImpliesEq, btree_set_from_contains}
use Rattle.std.proofs.lemmas.Map.Views.{btree_set_contains_iff}
use Rattle.trace_core.proofs.Members.{contains_cases, contains_none}

-- what holds of all holds of each
pub of_member : {X : Type 0} (P : X → Type 0) (xs : List X) → AllByRecursion P xs → (x : X) → Contains xs x → P x
of_member P [] all x there = absurd (contains_none x there)
of_member P (y ∷ ys) all x there = ⊎_elim (λ same. subst P same all.0) (λ later. of_member P ys all.1 x later) (contains_cases y x ys there)

module _ {K : Type 0} (cmp : K → K → Ordering) where
  pub head_below : (x : K) (xs : List K) → IsStrictlySortedBy cmp (x ∷ xs) → (y : K) → Contains xs y → cmp x y ≡ Less
  unfolding IsStrictlySortedBy
  head_below x xs up y there = of_member (λ y. cmp x y ≡ Less) xs up.0 y there

  pub tail_ascends : (x : K) (xs : List K) → IsStrictlySortedBy cmp (x ∷ xs) → IsStrictlySortedBy cmp xs
  unfolding IsStrictlySortedBy
  tail_ascends x xs up = up.1

  -- the first element is the least
  pub head_least : IsTotalOrder cmp → (x : K) (xs : List K) → IsStrictlySortedBy cmp (x ∷ xs) → (y : K) → Contains (x ∷ xs) y → cmp x y ≢ Greater
  head_least total x xs up y there = ⊎_elim
      (λ same greater. let tie : cmp x y ≡ Equal = subst (λ z. cmp x z ≡ Equal) same (tied_itself total x) in cc)
      (λ later greater. let below : cmp x y ≡ Less = head_below x xs up y later in cc)
      (contains_cases x y xs there)

  -- two elements of which neither is above the other tie
  pub neither_above : IsTotalOrder cmp → (x y : K) → cmp x y ≢ Greater → cmp y x ≢ Greater → cmp x y ≡ Equal
  neither_above total x y not_above not_below = elim (cmp x y) as (λ o. cmp x y ≡ o → o ≡ Equal) [
    | Less ↦ λ e. absurd (not_below (total.antisymm y x ∙ ap ordering_reverse e))
    | Equal ↦ λ e. refl
    | Greater ↦ λ e. absurd (not_above e)
  ] refl

-- ascending lists with the same members are one list
pub same_ascending : {K : Type 0} (cmp : K → K → Ordering) → IsTotalOrder cmp → CmpEqualImpliesEq cmp
    → (xs ys : List K) → IsStrictlySortedBy cmp xs → IsStrictlySortedBy cmp ys → ((k : K) → Contains xs k ↔ Contains ys k) → xs ≡ ys
same_ascending {K} cmp total exact xs ys a b same =
    let s : BTreeSet K = record { keys = xs } in
    let t : BTreeSet K = record { keys = ys } in
    btree_set_from_contains total s t a b (λ k.
    let of_s = btree_set_contains_iff total exact s k in
    let of_t = btree_set_contains_iff total exact t k in
    same_from_decides {P = Contains xs k} _ _ of_s (λ h. (same k).1 (of_t.0 h), λ m. of_t.1 ((same k).0 m))) exact

module _ {X Y : Type 0} (f : X → Y) (below : X → X → Ordering) (cmp : Y → Y → Ordering) (agree : (a b : X) → cmp (f a) (f b) ≡ below a b) where
  all_below : (x : X) (xs : List X) → AllByRecursion (λ y. below x y ≡ Less) xs → AllByRecursion (λ y. cmp (f x) y ≡ Less) (map f xs)
  all_below x [] h = tt
  all_below x (y ∷ ys) h = (agree x y ∙ h.0, all_below x ys h.1)

  -- a map that keeps the order
  pub map_ascends : (xs : List X) → IsStrictlySortedBy below xs → IsStrictlySortedBy cmp (map f xs)
  unfolding IsStrictlySortedBy
  map_ascends [] up = tt
  map_ascends (x ∷ xs) up = (all_below x xs up.0, map_ascends xs up.1)
