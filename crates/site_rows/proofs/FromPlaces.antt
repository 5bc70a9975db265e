-- What is so of each member of a list from a place on.
use Rattle.std.proofs.Common.{◌≡◌, ◌⊎◌, inl, inr, ℕ, zero, suc, ◌+◌, ◌<◌, ◌≤◌, List, [], ◌∷◌, ◌++◌, length, Some, All, get_or, take, ap, sym, ◌∙◌, subst, ⊎_elim, arith}
use Rattle.std.specs.Prelude.{slice_get}
use Rattle.std.proofs.lemmas.List.Elements.{All-more}
use Rattle.std.proofs.lemmas.Option.{same_Some}
use Rattle.site_core.proofs.EventsAmong.{all_from_places, passes_at}
use Rattle.site_core.proofs.OneAfterAnother.{lower_or_last}
use Rattle.site_core.proofs.Places.{stands_within}
use Rattle.site_rows.specs.EventTexts.{EachFrom}

-- what stands at a place of two lists stands in the first, or the place is past that
in_front : {X : Type 0} (xs ys : List X) (i : ℕ) (x : X) → slice_get (xs ++ ys) i ≡ Some x → (slice_get xs i ≡ Some x) ⊎ (length xs ≤ i)
in_front [] ys i x at = inr (omega arith)
in_front (z ∷ xs) ys zero x at = inl at
in_front (z ∷ xs) ys (suc i) x at = ⊎_elim (λ here. inl here) (λ past. inr (omega (arith, past))) (in_front xs ys i x at)

module _ {X : Type 0} (P : X → Type 0) where
  -- each passes from a place on and below another
  abbrev pub PassesFrom : ℕ → List X → ℕ → Type 0
  PassesFrom from xs n = (i : ℕ) (x : X) → from ≤ i → i < n → slice_get xs i ≡ Some x → P x

  pub passes_more : (from : ℕ) (xs : List X) (n : ℕ) (x : X) → slice_get xs n ≡ Some x → P x → PassesFrom from xs n → PassesFrom from xs (n + 1)
  passes_more from xs n x is passes so_far i y low high at = elim (lower_or_last i n high) as (λ _. P y) [
    | inl lower ↦ so_far i y low lower at
    | inr last ↦
        let same : x ≡ y = same_Some x y (sym is ∙ ap (slice_get xs) (sym last) ∙ at) in
        subst P same passes
  ]

  pub each_passes : (from : ℕ) (xs : List X) (n : ℕ) → length xs ≤ n → PassesFrom from xs n → EachFrom P from xs
  each_passes from xs n past so_far i x low at = so_far i x low (omega (arith, past, stands_within xs i x at)) at

  -- all, where it is so from the first place on, or of those before the place
  pub all_each : (xs : List X) → EachFrom P 0 xs → All P xs
  all_each xs each = all_from_places P xs (length xs) (omega arith) (λ i x low at. each i x (omega arith) at)

  pub all_with_more : (xs ys : List X) → All P xs → EachFrom P (length xs) (xs ++ ys) → All P (xs ++ ys)
  all_with_more xs ys before after =
      all_from_places P (xs ++ ys) (length (xs ++ ys)) (omega arith) (λ i x low at. ⊎_elim (passes_at P xs i before x) (λ past. after i x past at) (in_front xs ys i x at))

  -- one more of those that are taken
  pub one_more_taken : (xs : List X) (n : ℕ) (x : X) → n < length xs → x ≡ get_or xs n x → P x → All P (take n xs) → All P (take (n + 1) xs)
  one_more_taken xs n x low is passes so_far = All-more P xs n x low so_far (subst P is passes)
