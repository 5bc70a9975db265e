-- When two lists are one: what is made of them is the same, or they are the first parts of one list.
use Rattle.std.proofs.Common.{◌≡◌, ℕ, ◌+◌, suc, Bool, true, false, List, [], ◌∷◌, ◌++◌, map, refl, sym, ap, ◌∙◌}
use Rattle.std.specs.List.{enumerate_from, slice_get}

pub same_mapped : {X R : Type 0} (f : X → R) (same : (x y : X) → f x ≡ f y → x ≡ y) (xs ys : List X) → map f xs ≡ map f ys → xs ≡ ys
same_mapped f same [] [] e = refl
same_mapped f same [] (y ∷ ys) e = cc
same_mapped f same (x ∷ xs) [] e = cc
same_mapped f same (x ∷ xs) (y ∷ ys) e =
    let head : f x ≡ f y = cc in
    let tail : map f xs ≡ map f ys = cc in
    let one = same x y head in
    let rest = same_mapped f same xs ys tail in
    λ i. one i ∷ rest i

-- the same of lists whose elements are numbered
pub same_numbered : {X R : Type 0} (f : ℕ × X → R) (same : (k : ℕ) (x y : X) → f (k, x) ≡ f (k, y) → x ≡ y) (n : ℕ) (xs ys : List X)
    → map f (enumerate_from n xs) ≡ map f (enumerate_from n ys) → xs ≡ ys
same_numbered f same n [] [] e = refl
same_numbered f same n [] (y ∷ ys) e = cc
same_numbered f same n (x ∷ xs) [] e = cc
same_numbered f same n (x ∷ xs) (y ∷ ys) e =
    let head : f (n, x) ≡ f (n, y) = cc in
    let tail : map f (enumerate_from (n + 1) xs) ≡ map f (enumerate_from (n + 1) ys) = cc in
    let one = same n x y head in
    let rest = same_numbered f same (n + 1) xs ys tail in
    λ i. one i ∷ rest i

-- lists with the same at each place
pub same_places : {X : Type 0} (xs ys : List X) → ((k : ℕ) → slice_get xs k ≡ slice_get ys k) → xs ≡ ys
same_places [] [] all = refl
same_places [] (y ∷ ys) all = let e : slice_get [] 0 ≡ slice_get (y ∷ ys) 0 = all 0 in cc
same_places (x ∷ xs) [] all = let e : slice_get (x ∷ xs) 0 ≡ slice_get [] 0 = all 0 in cc
same_places (x ∷ xs) (y ∷ ys) all =
    let e : slice_get (x ∷ xs) 0 ≡ slice_get (y ∷ ys) 0 = all 0 in
    let head : x ≡ y = cc in
    let rest = same_places xs ys (λ k. all (suc k)) in
    λ i. head i ∷ rest i

module _ {R : Type 0} (p : R → Bool) where
  -- each element answers the test so
  abbrev pub AllAnswer : Bool → List R → Type 0
  AllAnswer b [] = Unit {0}
  AllAnswer b (x ∷ xs) = (p x ≡ b) × AllAnswer b xs

  pub all_answer : (b : Bool) (xs ys : List R) → AllAnswer b xs → AllAnswer b ys → AllAnswer b (xs ++ ys)
  all_answer b [] ys here there = there
  all_answer b (x ∷ xs) ys here there = (here.0, all_answer b xs ys here.1 there)

  never : (x y : R) → p x ≡ true → p y ≡ false → x ≡ y → ⊥
  never x y passes fails same = let wrong : true ≡ false = sym passes ∙ ap p same ∙ fails in cc

  -- where the elements of the first parts pass a test, and those of the second don't, the parts are the same
  pub same_parts : (xs ys a b : List R) → AllAnswer true xs → AllAnswer true ys → AllAnswer false a → AllAnswer false b → xs ++ a ≡ ys ++ b → (xs ≡ ys) × (a ≡ b)
  same_parts [] [] a b hx hy ha hb e = (refl, e)
  same_parts [] (y ∷ ys) [] b hx hy ha hb e = cc
  same_parts [] (y ∷ ys) (z ∷ a) b hx hy ha hb e = let same : y ≡ z = cc in absurd (never y z hy.0 ha.0 same)
  same_parts (x ∷ xs) [] a [] hx hy ha hb e = cc
  same_parts (x ∷ xs) [] a (z ∷ b) hx hy ha hb e = let same : x ≡ z = cc in absurd (never x z hx.0 hb.0 same)
  same_parts (x ∷ xs) (y ∷ ys) a b hx hy ha hb e =
      let head : x ≡ y = cc in
      let tail : xs ++ a ≡ ys ++ b = cc in
      let rest = same_parts xs ys a b hx.1 hy.1 ha hb tail in
      ((λ i. head i ∷ rest.0 i), rest.1)
