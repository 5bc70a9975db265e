-- Rows that are tested in turn.
use Rattle.std.proofs.Common.{◌≡◌, ℕ, ◌+◌, ◌<◌, ◌≤◌, inl, inr, List, Some, length, sym, subst, ap, ◌∙◌, arith}
use Rattle.std.specs.List.{slice_get}
use Rattle.std.proofs.lemmas.Bool.Decides.{eqb_tells}
use Rattle.site_core.proofs.Places.{stands_within}

-- what holds of each element before a place, and of the one there
pub each_up_to : {X : Type 0} (P : ℕ → X → Type 0) (xs : List X) (n : ℕ) (x : X) → slice_get xs n ≡ Some x → P n x
    → ((k : ℕ) (y : X) → k < n → slice_get xs k ≡ Some y → P k y) → (k : ℕ) (y : X) → k < n + 1 → slice_get xs k ≡ Some y → P k y
each_up_to P xs n x at here before k y low there = elim (eqb_tells k n) [
  | inl is ↦
      let same : Some y ≡ Some x = sym there ∙ ap (slice_get xs) is.1 ∙ at in
      let one : x ≡ y = cc in
      subst (λ z. P k z) one (subst (λ m. P m x) (sym is.1) here)
  | inr is ↦ before k y (omega (arith, low, is.1)) there
]

-- at the end it holds of all
pub each_of_all : {X : Type 0} (P : ℕ → X → Type 0) (xs : List X) (n : ℕ) → length xs ≤ n → ((k : ℕ) (y : X) → k < n → slice_get xs k ≡ Some y → P k y) → (k : ℕ) (y : X) → slice_get xs k ≡ Some y → P k y
each_of_all P xs n past before k y there = before k y (omega (arith, past, stands_within xs k y there)) there
