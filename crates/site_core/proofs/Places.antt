-- What stands at a place of a list.
use Rattle.std.proofs.Common.{◌≡◌, ◌⊎◌, inl, inr, ℕ, zero, suc, ◌+◌, ◌<◌, List, [], ◌∷◌, ◌++◌, Some, None, take, drop, length, refl, ap, subst, ◌∙◌, ⊎_elim, arith}
use Rattle.std.specs.List.{Contains, slice_get}
use Rattle.std.proofs.lemmas.List.Elements.{Contains-append_cases}
use Rattle.trace_core.proofs.Members.{contains_here, contains_there, contains_cases, contains_none}

taken : {X : Type 0} (xs : List X) (k : ℕ) (x : X) → slice_get xs k ≡ Some x → take (suc k) xs ≡ take k xs ++ x ∷ []
taken [] k x is = cc
taken (y ∷ ys) zero x is = let same : y ≡ x = cc in ap (λ z. z ∷ []) same
taken (y ∷ ys) (suc k) x is = ap (λ zs. y ∷ zs) (taken ys k x is)

-- one more element
pub taken_more : {X : Type 0} (xs : List X) (k : ℕ) (x : X) → slice_get xs k ≡ Some x → take (k + 1) xs ≡ take k xs ++ x ∷ []
taken_more xs k x is = let next : k + 1 ≡ suc k = omega arith in ap (λ n. take n xs) next ∙ taken xs k x is

-- where nothing stands the list has ended
pub nothing_there : {X : Type 0} (xs : List X) (k : ℕ) → slice_get xs k ≡ None → k < length xs → ⊥
nothing_there [] k is lt = omega (arith, lt)
nothing_there (y ∷ ys) zero is lt = cc
nothing_there (y ∷ ys) (suc k) is lt = nothing_there ys k is (omega (arith, lt))

pub stands_within : {X : Type 0} (xs : List X) (k : ℕ) (x : X) → slice_get xs k ≡ Some x → k < length xs
stands_within [] k x is = cc
stands_within (y ∷ ys) zero x is = omega arith
stands_within (y ∷ ys) (suc k) x is = omega (arith, stands_within ys k x is)

pub member_there : {X : Type 0} (xs : List X) (k : ℕ) (x : X) → slice_get xs k ≡ Some x → Contains xs x
member_there [] k x is = cc
member_there (y ∷ ys) zero x is = let same : y ≡ x = cc in subst (λ z. Contains (y ∷ ys) z) same (contains_here y ys)
member_there (y ∷ ys) (suc k) x is = contains_there y x ys (member_there ys k x is)

-- the rest of a list begins with what stands at its place
pub stands_next : {X : Type 0} (xs : List X) (k : ℕ) (x : X) (rest : List X) → drop k xs ≡ x ∷ rest → slice_get xs k ≡ Some x
stands_next [] zero x rest is = cc
stands_next [] (suc k) x rest is = cc
stands_next (y ∷ ys) zero x rest is = let same : y ≡ x = cc in ap Some same
stands_next (y ∷ ys) (suc k) x rest is = stands_next ys k x rest is

drops : {X : Type 0} (xs : List X) (k : ℕ) (x : X) (rest : List X) → drop k xs ≡ x ∷ rest → drop (suc k) xs ≡ rest
drops [] zero x rest is = cc
drops [] (suc k) x rest is = cc
drops (y ∷ ys) zero x rest is = cc
drops (y ∷ ys) (suc k) x rest is = drops ys k x rest is

pub rest_next : {X : Type 0} (xs : List X) (k : ℕ) (x : X) (rest : List X) → drop k xs ≡ x ∷ rest → drop (k + 1) xs ≡ rest
rest_next xs k x rest is = let next : k + 1 ≡ suc k = omega arith in ap (λ n. drop n xs) next ∙ drops xs k x rest is

-- an element of a list that is one longer
pub member_more : {X : Type 0} (xs ys : List X) (x y : X) → ys ≡ xs ++ x ∷ [] → Contains ys y → Contains xs y ⊎ (x ≡ y)
member_more xs ys x y is there = ⊎_elim
    (λ before. inl before)
    (λ last. ⊎_elim (λ same. inr same) (λ none. absurd (contains_none y none)) (contains_cases x y [] last))
    (Contains-append_cases xs (x ∷ []) y (subst (λ zs. Contains zs y) is there))

pub some_stands : {X : Type 0} (xs : List X) (k : ℕ) → k < length xs → (x : X) × (slice_get xs k ≡ Some x)
some_stands [] k lt = absurd (omega (arith, lt))
some_stands (y ∷ ys) zero lt = (y, refl)
some_stands (y ∷ ys) (suc k) lt = some_stands ys k (omega (arith, lt))
