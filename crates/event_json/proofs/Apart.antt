-- Lists of texts in which none stands twice.
use Rattle.std.proofs.Common.{◌≡◌, ℕ, suc, ◌+◌, ◌<◌, Bool, true, false, cond, not, ltb, ◌||◌, List, [], ◌∷◌, ◌++◌, map, length, Some, None, refl, ap, ◌∙◌, arith}
use Rattle.std.specs.Prelude.{bytes_eq, is_some, position, flat_map}
use Rattle.std.specs.List.{list_any, prefix_len}
use Rattle.std.specs.Cmp.Lexicographic.{nat_list_eq_equiv}
use Rattle.std.proofs.lemmas.Bool.{lt-ltb, ltb-false, le-ltb}
use Rattle.std.proofs.lemmas.List.Folds.{list_any-append}
use Rattle.event_json.specs.Sites.{repeats}

-- neither of two is true
pub neither : (a b : Bool) → (a || b) ≡ false → (a ≡ false) × (b ≡ false)
neither true b e = absurd cc
neither false b e = (refl, e)

pub no_or : (a b : Bool) → a ≡ false → b ≡ false → (a || b) ≡ false
no_or a b e f = rw (e, f) refl

-- tests that agree
pub any_same : {X : Type 0} (p q : X → Bool) → ((x : X) → p x ≡ q x) → (xs : List X) → list_any p xs ≡ list_any q xs
any_same p q same [] = refl
any_same p q same (x ∷ xs) = rw (same x, any_same p q same xs) refl

pub any_mapped : {X Y : Type 0} (p : X → Bool) (h : Y → X) (ys : List Y) → list_any p (map h ys) ≡ list_any (λ y. p (h y)) ys
any_mapped p h [] = refl
any_mapped p h (y ∷ ys) = ap (λ b. p (h y) || b) (any_mapped p h ys)

pub any_flat : {X Y : Type 0} (p : X → Bool) (h : Y → List X) (ys : List Y) → list_any p (flat_map h ys) ≡ list_any (λ y. list_any p (h y)) ys
any_flat p h [] = refl
any_flat p h (y ∷ ys) = list_any-append p (h y) (flat_map h ys) ∙ ap (λ b. list_any p (h y) || b) (any_flat p h ys)

-- what fails two tests
any_either : {X : Type 0} (p q : X → Bool) (xs : List X) → list_any (λ x. p x || q x) xs ≡ false → (list_any p xs ≡ false) × (list_any q xs ≡ false)
any_either p q [] e = (refl, refl)
any_either p q (x ∷ xs) e =
    let here = neither (p x || q x) (list_any (λ y. p y || q y) xs) e in
    let both = neither (p x) (q x) here.0 in
    let rest = any_either p q xs here.1 in
    (no_or (p x) (list_any p xs) both.0 rest.0, no_or (q x) (list_any q xs) both.1 rest.1)

-- there is a first place exactly where some element passes
place_head : (b r : Bool) (n m : ℕ) → ltb n m ≡ r → ltb (cond (not b) (1 + n) 0) (suc m) ≡ (b || r)
place_head true r n m e = lt-ltb 0 (suc m) (omega arith)
place_head false true n m e = lt-ltb (1 + n) (suc m) (omega (arith, ltb-true e))
  where
    ltb-true : ltb n m ≡ true → n < m
    ltb-true h = grind arith
place_head false false n m e = le-ltb (1 + n) (suc m) (omega (arith, ltb-false n m e))

any_place : {X : Type 0} (p : X → Bool) (xs : List X) → ltb (prefix_len (λ x. not (p x)) xs) (length xs) ≡ list_any p xs
any_place p [] = refl
any_place p (x ∷ xs) = place_head (p x) (list_any p xs) (prefix_len (λ y. not (p y)) xs) (length xs) (any_place p xs)

is_some-cond : (b : Bool) (n : ℕ) → is_some (cond b (Some n) None) ≡ b
is_some-cond true n = refl
is_some-cond false n = refl

pub is_some-position : {X : Type 0} (p : X → Bool) (xs : List X) → is_some (position p xs) ≡ list_any p xs
is_some-position p xs = is_some-cond (ltb (prefix_len (λ x. not (p x)) xs) (length xs)) (prefix_len (λ x. not (p x)) xs) ∙ any_place p xs

-- some text of the second list is in the first
abbrev pub meets : List (List ℕ) → List (List ℕ) → Bool
meets xs ys = list_any (λ y. list_any (λ x. bytes_eq x y) xs) ys

-- two lists in which none stands twice, and which have none in common
pub repeats-append : (xs ys : List (List ℕ)) → repeats xs ≡ false → repeats ys ≡ false → meets xs ys ≡ false → repeats (xs ++ ys) ≡ false
repeats-append [] ys e f g = f
repeats-append (x ∷ xs) ys e f g =
    let own = neither (list_any (λ t. bytes_eq t x) xs) (repeats xs) e in
    let cross = any_either (λ y. bytes_eq x y) (λ y. list_any (λ z. bytes_eq z y) xs) ys g in
    let turned : list_any (λ t. bytes_eq t x) ys ≡ false = any_same (λ t. bytes_eq t x) (λ t. bytes_eq x t) (λ t. nat_list_eq_equiv.symm t x) ys ∙ cross.0 in
    let here : list_any (λ t. bytes_eq t x) (xs ++ ys) ≡ false = list_any-append (λ t. bytes_eq t x) xs ys ∙ no_or _ _ own.0 turned in
    no_or _ _ here (repeats-append xs ys own.1 f cross.1)
