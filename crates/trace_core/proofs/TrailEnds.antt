-- How a trail ends: the pair before its last one, and its last two.
use Rattle.std.proofs.Common.{◌≡◌, ◌-◌, suc, List, [], ◌∷◌, ◌++◌, Some, drop, length, reverse, slice_get, take, refl, sym, ap, ◌∙◌, append_assoc, length-append, inl, inr, ⊎_elim, arith}
use mathlib.Core.Logic.{◌⊎◌}
use Rattle.std.proofs.lemmas.List.{reverse-append}
use Rattle.trace_core.specs.declared.pairs.Pair.{Pair}
use Rattle.trace_core.specs.Trails.{before_end, before_last}

-- the pair before the last one
pub before_two : (xs : List Pair) (a b : Pair) → before_last ((xs ++ a ∷ []) ++ b ∷ []) ≡ Some a
before_two xs a b =
    let all : (xs ++ a ∷ []) ++ b ∷ [] ≡ xs ++ a ∷ b ∷ [] = append_assoc xs (a ∷ []) (b ∷ []) in
    let long : length (xs ++ a ∷ b ∷ []) ≡ suc (suc (length xs)) = omega (arith, length-append xs (a ∷ b ∷ [])) in
    ap before_last all ∙ ap (before_end (xs ++ a ∷ b ∷ [])) long ∙ second xs
  where
    second : (ys : List Pair) → slice_get (ys ++ a ∷ b ∷ []) (length ys) ≡ Some a
    second [] = refl
    second (y ∷ ys) = second ys

-- the last two
pub last_two : (xs : List Pair) (a b : Pair) → drop (length ((xs ++ a ∷ []) ++ b ∷ []) - 2) ((xs ++ a ∷ []) ++ b ∷ []) ≡ a ∷ b ∷ []
last_two xs a b =
    let all : (xs ++ a ∷ []) ++ b ∷ [] ≡ xs ++ a ∷ b ∷ [] = append_assoc xs (a ∷ []) (b ∷ []) in
    let long : length (xs ++ a ∷ b ∷ []) - 2 ≡ length xs = omega (arith, length-append xs (a ∷ b ∷ [])) in
    ap (λ (ps : List Pair). drop (length ps - 2) ps) all ∙ ap (λ n. drop n (xs ++ a ∷ b ∷ [])) long ∙ behind xs
  where
    behind : (ys : List Pair) → drop (length ys) (ys ++ a ∷ b ∷ []) ≡ a ∷ b ∷ []
    behind [] = refl
    behind (y ∷ ys) = behind ys

-- a list is empty, or has an end
snoc : (ps : List Pair) → (ps ≡ []) ⊎ ((xs : List Pair) × (b : Pair) × (ps ≡ xs ++ b ∷ []))
snoc [] = inl refl
snoc (p ∷ ps) = ⊎_elim
    (λ none. inr ([], p, ap (λ (ys : List Pair). p ∷ ys) none))
    (λ (xs, b, is). inr (p ∷ xs, b, ap (λ (ys : List Pair). p ∷ ys) is))
    (snoc ps)

-- it is empty, or has one pair, or ends with two
abbrev pub EndsSo : List Pair → Type 0
EndsSo ps = (ps ≡ []) ⊎ (((a : Pair) × (ps ≡ a ∷ [])) ⊎ ((xs : List Pair) × (a : Pair) × (b : Pair) × (ps ≡ (xs ++ a ∷ []) ++ b ∷ [])))

pub ends_so : (ps : List Pair) → EndsSo ps
ends_so ps = ⊎_elim
    (λ none. inl none)
    (λ (xs, b, is). inr (⊎_elim
    (λ one. inl (b, is ∙ ap (λ (ys : List Pair). ys ++ b ∷ []) one))
    (λ (ys, a, are). inr (ys, a, b, is ∙ ap (λ (zs : List Pair). zs ++ b ∷ []) are))
    (snoc xs)))
    (snoc ps)

two_back : (xs : List Pair) (a b : Pair) → reverse ((xs ++ a ∷ []) ++ b ∷ []) ≡ b ∷ a ∷ reverse xs
two_back xs a b = reverse-append (xs ++ a ∷ []) (b ∷ []) ∙ ap (λ (ys : List Pair). b ∷ ys) (reverse-append xs (a ∷ []))

-- read from its end, a trail has the pair before its last one behind the first one
pub second_back : (ps : List Pair) → slice_get (reverse ps) 1 ≡ before_last ps
second_back ps = ⊎_elim
    (λ none. ap (λ (xs : List Pair). slice_get (reverse xs) 1) none ∙ sym (ap before_last none))
    (λ some. ⊎_elim
    (λ (a, is). ap (λ (xs : List Pair). slice_get (reverse xs) 1) is ∙ sym (ap before_last is))
    (λ (xs, a, b, is). ap (λ (ys : List Pair). slice_get (reverse ys) 1) is ∙ ap (λ (ys : List Pair). slice_get ys 1) (two_back xs a b) ∙ sym (ap before_last is ∙ before_two xs a b))
    some)
    (ends_so ps)

-- and its last two as the first two
pub ending_back : (ps : List Pair) → reverse (drop (length ps - 2) ps) ≡ take 2 (reverse ps)
ending_back ps = ⊎_elim
    (λ none. ap (λ (xs : List Pair). reverse (drop (length xs - 2) xs)) none ∙ sym (ap (λ (xs : List Pair). take 2 (reverse xs)) none))
    (λ some. ⊎_elim
    (λ (a, is). ap (λ (xs : List Pair). reverse (drop (length xs - 2) xs)) is ∙ sym (ap (λ (xs : List Pair). take 2 (reverse xs)) is))
    (λ (xs, a, b, is). ap (λ (ys : List Pair). reverse (drop (length ys - 2) ys)) is ∙ ap reverse (last_two xs a b) ∙ sym (ap (λ (ys : List Pair). take 2 (reverse ys)) is ∙ ap (take 2) (two_back xs a b)))
    some)
    (ends_so ps)
