-- Ranges of numbers, one more at the end.
use Rattle.std.proofs.Common.{◌≡◌, ℕ, zero, suc, ◌+◌, List, [], ◌∷◌, ◌++◌, map, length, ap, sym, ◌∙◌, arith}
use Rattle.std.proofs.lemmas.List.{map_push, length_push}
use Rattle.std.specs.List.{range_with_len}

pub range_push : (a n : ℕ) → range_with_len a (suc n) ≡ range_with_len a n ++ (a + n) ∷ []
range_push a zero = ap (λ k. k ∷ []) (let x : a ≡ a + 0 = omega arith in x)
range_push a (suc n) = ap (λ l. a ∷ l) (range_push (a + 1) n ∙ ap (λ k. range_with_len (a + 1) n ++ k ∷ []) (let x : a + 1 + n ≡ a + suc n = omega arith in x))

-- the numbers of a list with one more at its end
pub numbered_push : {A : Type 0} (number : A → ℕ) (first : ℕ) (xs more : List A) (x : A) → map number xs ≡ range_with_len first (length xs) → number x ≡ first + length xs → more ≡ xs ++ x ∷ [] → map number more ≡ range_with_len first (length more)
numbered_push number first xs more x all mine pushed =
    ap (map number) pushed ∙ map_push number xs x ∙ (λ i. all i ++ mine i ∷ []) ∙ sym (range_push first (length xs))
    ∙ ap (range_with_len first) (let l = length_push xs x in let n : suc (length xs) ≡ length (xs ++ x ∷ []) = omega arith in n) ∙ ap (λ l. range_with_len first (length l)) (sym pushed)
