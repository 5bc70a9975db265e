-- strictly ascending lists of pairs
use Rattle.std.proofs.Common.{◌≡◌, List, [], ◌∷◌, refl, sym, ap, ◌∙◌, subst, All, inl, inr}
use Rattle.std.specs.Prelude.{Contains}
use Rattle.std.specs.BTreeSet.{insert_key}
use Rattle.std.specs.List.Sorted.{IsStrictlySortedBy}
use Rattle.std.specs.Ordering.{ordering_reverse, match_ordering}
use Rattle.std.specs.declared.cmp.Ordering.{Ordering}
use Rattle.std.specs.declared.cmp.Ordering.TheVariants.{Less, Equal, Greater}
use Rattle.std.proofs.lemmas.List.Elements.{All-cons, All-weaker, All-from_recursion, recursion_from_All}
use Rattle.std.proofs.lemmas.Map.Views.{All-insert_key}
use Rattle.trace_core.proofs.Members.{contains_here, contains_there, contains_cases, contains_none}
use Rattle.trace_core.proofs.PairOrder.{pairs_exact, pairs_total}
use Rattle.trace_core.specs.Pairs.{pair_cmp, IsStrictlyAscending}
use Rattle.trace_core.specs.declared.pairs.Pair.{Pair}

-- a list with one pair more
abbrev pub with_pair : List Pair → Pair → List Pair
with_pair pairs p = insert_key pair_cmp pairs p

pub ascending_none : IsStrictlyAscending []
unfolding IsStrictlySortedBy
ascending_none = tt

pub ascending_with : (pairs : List Pair) (p : Pair) → IsStrictlyAscending pairs → IsStrictlyAscending (with_pair pairs p)
unfolding IsStrictlySortedBy
ascending_with [] p up = (tt, tt)
ascending_with (x ∷ xs) p up = by (pair_cmp p x) refl (ascending_with xs p up.1) where
  above : All (λ y. pair_cmp x y ≡ Less) xs
  above = All-from_recursion (λ y. pair_cmp x y ≡ Less) xs up.0

  by : (r : Ordering) → pair_cmp p x ≡ r → IsStrictlyAscending (with_pair xs p) → IsStrictlyAscending (match_ordering r (p ∷ x ∷ xs) (x ∷ xs) (x ∷ with_pair xs p))
  by Less e rest = (
    recursion_from_All (λ y. pair_cmp p y ≡ Less) (x ∷ xs)
        (All-cons (λ y. pair_cmp p y ≡ Less) x xs e (All-weaker (λ y. pair_cmp x y ≡ Less) (λ y. pair_cmp p y ≡ Less) (λ y after. pairs_total.trans p x y e after) xs above)),
    up,
  )
  by Equal e rest = up
  by Greater e rest = (
    recursion_from_All (λ y. pair_cmp x y ≡ Less) (with_pair xs p)
        (All-insert_key pair_cmp p (λ y. pair_cmp x y ≡ Less) xs above (pairs_total.antisymm x p ∙ ap ordering_reverse e)),
    rest,
  )

pub contains_with : (pairs : List Pair) (p : Pair) → Contains (with_pair pairs p) p
contains_with [] p = contains_here p []
contains_with (x ∷ xs) p = by (pair_cmp p x) refl (contains_with xs p) where
  by : (r : Ordering) → pair_cmp p x ≡ r → Contains (with_pair xs p) p → Contains (match_ordering r (p ∷ x ∷ xs) (x ∷ xs) (x ∷ with_pair xs p)) p
  by Less e rest = contains_here p (x ∷ xs)
  by Equal e rest = subst (Contains (x ∷ xs)) (sym (pairs_exact p x e)) (contains_here x xs)
  by Greater e rest = contains_there x p (with_pair xs p) rest

pub still_with : (pairs : List Pair) (p q : Pair) → Contains pairs q → Contains (with_pair pairs p) q
still_with [] p q h = absurd (contains_none q h)
still_with (x ∷ xs) p q h = by (pair_cmp p x) (still_with xs p q) where
  by : (r : Ordering) → (Contains xs q → Contains (with_pair xs p) q) → Contains (match_ordering r (p ∷ x ∷ xs) (x ∷ xs) (x ∷ with_pair xs p)) q
  by Less rest = contains_there p q (x ∷ xs) h
  by Equal rest = h
  by Greater rest = elim (contains_cases x q xs h) as (λ s. Contains (x ∷ with_pair xs p) q) [
    | inl e ↦ subst (Contains (x ∷ with_pair xs p)) e (contains_here x (with_pair xs p))
    | inr t ↦ contains_there x q (with_pair xs p) (rest t)
  ]
