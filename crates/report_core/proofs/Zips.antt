-- Two lists, place by place.
use Rattle.std.proofs.Common.{◌≡◌, inl, inr, ℕ, zero, suc, List, [], ◌∷◌, Some, refl, slice_get, subst, Contains}
use Rattle.std.specs.Bool.{⊤}
use Rattle.std.specs.List.{AllZip}
use Rattle.std.specs.Option.{IsSomeAnd, MatchOption}
use Rattle.std.proofs.lemmas.Slice.Zip.{AllZip-left}
use Rattle.trace_core.proofs.NumberLists.{some_is, none_is}
use Rattle.trace_core.proofs.Members.{contains_here, contains_there, contains_cases, contains_none}

-- what stands in the second list stands beside one of the first
pub zip_member : {A B : Type 0} (R : A → B → Type 0) (xs : List A) (ys : List B) → AllZip R xs ys → (y : B) → Contains ys y → (x : A) × Contains xs x × R x y
zip_member R [] [] h y at = absurd (contains_none y at)
zip_member R [] (z ∷ zs) h y at = absurd h
zip_member R (x ∷ xs) [] h y at = absurd h
zip_member R (x ∷ xs) (z ∷ zs) h y at = elim (contains_cases z y zs at) [
  | inl same ↦ (x, contains_here x xs, subst (R x) same h.0)
  | inr later ↦ let m = zip_member R xs zs h.1 y later in (m.0, contains_there x m.0 xs m.1, m.2)
]

-- what stands at one place of both
pub zip_at : {A B : Type 0} (R : A → B → Type 0) (xs : List A) (ys : List B) → AllZip R xs ys → (k : ℕ) (x : A) (y : B) → slice_get xs k ≡ Some x → slice_get ys k ≡ Some y → R x y
zip_at R xs ys zip k x y at at' =
    subst (λ o. IsSomeAnd o (R x)) at' (subst (λ o. MatchOption o ⊤ (λ z. IsSomeAnd (slice_get ys k) (R z))) at (AllZip-left R xs ys zip k))

-- beside each of the first list stands one of the second
pub zip_beside : {A B : Type 0} (R : A → B → Type 0) (xs : List A) (ys : List B) → AllZip R xs ys → (k : ℕ) (x : A) → slice_get xs k ≡ Some x → (y : B) × (slice_get ys k ≡ Some y) × R x y
zip_beside R [] ys zip k x at = absurd (none_is x at)
zip_beside R (z ∷ xs) [] zip k x at = absurd zip
zip_beside R (z ∷ xs) (y ∷ ys) zip zero x at = (y, refl, subst (λ w. R w y) (some_is z x at) zip.0)
zip_beside R (z ∷ xs) (y ∷ ys) zip (suc k) x at = zip_beside R xs ys zip.1 k x at
