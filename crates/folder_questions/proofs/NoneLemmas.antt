-- whether there is something to note
use Rattle.std.proofs.Common.{◌≡◌, ◌≢◌, ◌⊎◌, ◌==◌, ◌&&◌, ◌∙◌, inl, inr, ℕ, Bool, true, false, List, [], ◌∷◌, length, refl, sym, ap, arith}
use mathlib.Core.Bool.{false≢true}
use Rattle.std.proofs.lemmas.Bool.{eqb-true}

pub none_are : {X : Type 0} (xs : List X) → length xs ≡ 0 → xs ≡ []
none_are [] h = refl
none_are (x ∷ xs) h = absurd (let no : length (x ∷ xs) ≡ 0 = h in omega (arith, no))

both_so : (a b : Bool) → (a && b) ≡ true → (a ≡ true) × (b ≡ true)
both_so true b h = (refl, h)
both_so false b h = absurd (false≢true h)

pub nothing_is : {X : Type 0} (xs : List X) (n : ℕ) → true ≡ ((length xs == 0) && (n == 0)) → (xs ≡ []) × (n ≡ 0)
nothing_is xs n h = let (a, b) = both_so (length xs == 0) (n == 0) (sym h) in (none_are xs (eqb-true (length xs) 0 a), eqb-true n 0 b)

pub something_is : {X : Type 0} (xs : List X) (n : ℕ) → false ≡ ((length xs == 0) && (n == 0)) → (xs ≢ []) ⊎ (n ≢ 0)
something_is xs n h = by (length xs == 0) refl
  where
    by : (b : Bool) → (length xs == 0) ≡ b → (xs ≢ []) ⊎ (n ≢ 0)
    by true is = inr (λ none. false≢true (h ∙ ap (λ (c : Bool). c && (n == 0)) is ∙ ap (λ (m : ℕ). m == 0) none))
    by false is = inl (λ none. false≢true (sym is ∙ ap (λ ys. length ys == 0) none))
