-- A test of each element of a list, by places.
use Rattle.std.proofs.Common.{◌≡◌, inl, inr, ℕ, ◌+◌, ◌<◌, ◌≤◌, List, [], ◌∷◌, length, get_or, Some, All, ap, sym, ◌∙◌, subst, arith}
use Rattle.std.specs.Prelude.{slice_get}
use Rattle.std.proofs.lemmas.List.Elements.{All-get_or, All-from_get_or}
use Rattle.std.proofs.lemmas.Option.{slice_get-get_or, slice_get_within, get_or_from_slice_get}
use Rattle.site_core.proofs.OneAfterAnother.{lower_or_last}

module _ {X : Type 0} (P : X → Type 0) where
  -- each element below a place passes
  abbrev pub PassesBelow : List X → ℕ → Type 0
  PassesBelow xs n = (i : ℕ) (x : X) → i < n → slice_get xs i ≡ Some x → P x

  pub one_place_more : (xs : List X) (n : ℕ) → ((x : X) → slice_get xs n ≡ Some x → P x) → PassesBelow xs n → PassesBelow xs (n + 1)
  one_place_more xs n here below i x low at = elim (lower_or_last i n low) as (λ _. P x) [
    | inl lower ↦ below i x lower at
    | inr last ↦ here x (ap (slice_get xs) (sym last) ∙ at)
  ]

  pub all_from_places : (xs : List X) (n : ℕ) → length xs ≤ n → PassesBelow xs n → All P xs
  all_from_places [] n past below = λ k d low. absurd (omega (arith, low))
  all_from_places (x ∷ xs) n past below =
      All-from_get_or P (x ∷ xs) x (λ i within. below i (get_or (x ∷ xs) i x) (omega (arith, within, past)) (slice_get-get_or (x ∷ xs) i x within))

  pub passes_at : (xs : List X) (n : ℕ) → All P xs → (x : X) → slice_get xs n ≡ Some x → P x
  passes_at xs n all x at = subst P (get_or_from_slice_get xs n x x at) (All-get_or P xs n x (slice_get_within xs n x at) all)
