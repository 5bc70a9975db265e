-- Rows that are made in turn: what is there with what is left is all.
use Rattle.std.proofs.Common.{◌≡◌, ℕ, ◌+◌, ◌≤◌, suc, zero, Some, None, List, [], ◌∷◌, ◌++◌, length, map, flat_map, fold, drop, refl, sym, ap, ◌∙◌, append_assoc, arith}
use Rattle.std.specs.Prelude.{slice_get, Option, option_map}
use Rattle.std.specs.List.{enumerate_from}
use Rattle.std.proofs.Math.ListN.{drop_of_length-le}
use Rattle.std.proofs.lemmas.List.{append-nil}

module _ {X R : Type 0} (f : X → R) where
  pub one_more : (xs es : List X) (x : X) (out total : List R) → xs ≡ x ∷ es → out ++ map f xs ≡ total → (out ++ f x ∷ []) ++ map f es ≡ total
  one_more xs es x out total next so_far = append_assoc out (f x ∷ []) (map f es) ∙ ap (λ ys. out ++ map f ys) (sym next) ∙ so_far

  pub at_end : (xs : List X) (out total : List R) → xs ≡ [] → out ++ map f xs ≡ total → out ≡ total
  at_end xs out total none so_far = sym (append-nil out) ∙ ap (λ es. out ++ map f es) (sym none) ∙ so_far

module _ {X R : Type 0} (f : X → List R) where
  pub some_more : (xs es : List X) (x : X) (out total : List R) → xs ≡ x ∷ es → out ++ flat_map f xs ≡ total → (out ++ f x) ++ flat_map f es ≡ total
  some_more xs es x out total next so_far = append_assoc out (f x) (flat_map f es) ∙ ap (λ ys. out ++ flat_map f ys) (sym next) ∙ so_far

  pub all_at_end : (xs : List X) (out total : List R) → xs ≡ [] → out ++ flat_map f xs ≡ total → out ≡ total
  all_at_end xs out total none so_far = sym (append-nil out) ∙ ap (λ es. out ++ flat_map f es) (sym none) ∙ so_far

pub rest_there : {X : Type 0} (xs : List X) (n : ℕ) (x : X) → slice_get xs n ≡ Some x → drop n xs ≡ x ∷ drop (suc n) xs
rest_there [] n x is = cc
rest_there (y ∷ ys) zero x is = let same : y ≡ x = cc in ap (λ z. z ∷ ys) same
rest_there (y ∷ ys) (suc n) x is = rest_there ys n x is

-- the rest of a list at a place where something stands, each with its number
pub numbered_at : {X : Type 0} (m : ℕ) (xs : List X) (n : ℕ) (x : X) → slice_get xs n ≡ Some x → enumerate_from m (drop n xs) ≡ (m, x) ∷ enumerate_from (m + 1) (drop (n + 1) xs)
numbered_at m xs n x is =
    let next : n + 1 ≡ suc n = omega arith in
    ap (enumerate_from m) (rest_there xs n x is) ∙ ap (λ j. (m, x) ∷ enumerate_from (m + 1) (drop j xs)) (sym next)

-- past its end nothing is left
pub none_numbered : {X : Type 0} (m : ℕ) (xs : List X) (n : ℕ) → length xs ≤ n → enumerate_from m (drop n xs) ≡ []
none_numbered m xs n past = ap (enumerate_from m) (drop_of_length-le xs past)

-- one row more, or those of one more, at a place
pub row_there : {X R : Type 0} (f : ℕ × X → R) (m : ℕ) (xs : List X) (n : ℕ) (x : X) (out total : List R) → slice_get xs n ≡ Some x
    → out ++ map f (enumerate_from m (drop n xs)) ≡ total → (out ++ f (m, x) ∷ []) ++ map f (enumerate_from (m + 1) (drop (n + 1) xs)) ≡ total
row_there f m xs n x out total is so_far = one_more f _ _ (m, x) out total (numbered_at m xs n x is) so_far

pub rows_there : {X R : Type 0} (f : ℕ × X → List R) (m : ℕ) (xs : List X) (n : ℕ) (x : X) (out total : List R) → slice_get xs n ≡ Some x
    → out ++ flat_map f (enumerate_from m (drop n xs)) ≡ total → (out ++ f (m, x)) ++ flat_map f (enumerate_from (m + 1) (drop (n + 1) xs)) ≡ total
rows_there f m xs n x out total is so_far = some_more f _ _ (m, x) out total (numbered_at m xs n x is) so_far

-- what stands behind an answer that is made of it
pub behind : {X Y : Type 0} (g : X → Y) (o : Option X) (y : Y) → option_map g o ≡ Some y → (x : X) × (o ≡ Some x) × (g x ≡ y)
behind g None y is = cc
behind g (Some x) y is = let same : g x ≡ y = cc in (x, refl, same)

pub nothing_behind : {X Y : Type 0} (g : X → Y) (o : Option X) → option_map g o ≡ None → o ≡ None
nothing_behind g None is = refl
nothing_behind g (Some x) is = cc

-- the same of what is added in turn
pub added_after : {X R : Type 0} (g : R → X → R) (start : R) (xs ys : List X) → fold g start (xs ++ ys) ≡ fold g (fold g start xs) ys
added_after g start [] ys = refl
added_after g start (x ∷ xs) ys = added_after g (g start x) xs ys

pub folded_there : {X Y R : Type 0} (g : R → Y → R) (f : ℕ × X → List Y) (m : ℕ) (xs : List X) (n : ℕ) (x : X) (out total : R) → slice_get xs n ≡ Some x
    → fold g out (flat_map f (enumerate_from m (drop n xs))) ≡ total → fold g (fold g out (f (m, x))) (flat_map f (enumerate_from (m + 1) (drop (n + 1) xs))) ≡ total
folded_there g f m xs n x out total is so_far =
    sym (added_after g out (f (m, x)) (flat_map f (enumerate_from (m + 1) (drop (n + 1) xs))))
    ∙ ap (λ ys. fold g out (flat_map f ys)) (sym (numbered_at m xs n x is)) ∙ so_far

pub put_there : {X Y R : Type 0} (g : R → Y → R) (f : ℕ × X → Y) (m : ℕ) (xs : List X) (n : ℕ) (x : X) (out total : R) → slice_get xs n ≡ Some x
    → fold g out (map f (enumerate_from m (drop n xs))) ≡ total → fold g (g out (f (m, x))) (map f (enumerate_from (m + 1) (drop (n + 1) xs))) ≡ total
put_there g f m xs n x out total is so_far = ap (λ ys. fold g out (map f ys)) (sym (numbered_at m xs n x is)) ∙ so_far
