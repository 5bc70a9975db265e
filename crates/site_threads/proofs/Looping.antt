-- What a loop has taken from a list, and what it takes next.
use Rattle.std.proofs.Common.{◌≡◌, ◌+◌, ◌<◌, List, [], ◌∷◌, ◌++◌, All, Contains, length, refl, sym, ◌∙◌, ap, subst, append_assoc, length-append, arith}
use Rattle.std.proofs.lemmas.List.Elements.{All-contains, Contains-append_right}

module _ {A : Type 0} (all taken rest after : List A) (x : A) (left : all ≡ taken ++ rest) (next : rest ≡ x ∷ after) where
  whole : all ≡ taken ++ x ∷ after
  whole = left ∙ ap (λ l. taken ++ l) next

  pub left_more : all ≡ (taken ++ x ∷ []) ++ after
  left_more = whole ∙ sym (append_assoc taken (x ∷ []) after)

  pub less : length taken < length all
  less = let n : length all ≡ length taken + length (x ∷ after) = ap length whole ∙ length-append taken (x ∷ after) in omega arith

  pub one_of : (P : A → Type 0) → All P all → P x
  one_of P h = All-contains P all x h (subst (λ (l : List A). Contains l x) (sym whole) (Contains-append_right taken (x ∷ after) x (0, omega arith, refl)))
