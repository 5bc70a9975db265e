-- Lists of JSON values, and tests of mapped lists.
use Rattle.std.proofs.Common.{◌≡◌, ℕ, suc, ◌+◌, Bool, true, false, cond, ◌<◌, get_or, Option, Some, None, List, [], ◌∷◌, map, length, refl, ap, arith}
use Rattle.std.specs.Prelude.{filter, filter_map, is_none}
use Rattle.std.specs.List.{list_all, cons_option}
use Rattle.std.proofs.lemmas.List.Folds.{list_all-map, list_all_at}
use Rattle.serde_json.specs.View.{items_view}
use Rattle.serde_json.specs.declared.value.Value.{Value}
use Rattle.event_json.specs.Members.{count_of}

-- the array of some values has as many members
pub items_count : (vs : List Value) → count_of (items_view vs) ≡ length vs
items_count [] = refl
items_count (v ∷ vs) = ap suc (items_count vs)

-- a test that each mapped element passes
pub all_at : {X Y : Type 0} (p : X → Bool) (h : Y → X) (ys : List Y) (i : ℕ) (d : Y) → i < length ys → list_all p (map h ys) ≡ true → p (h (get_or ys i d)) ≡ true
all_at p h ys i d lt e = elim_not (p (h (get_or ys i d))) (λ no. absurd (is_both (list_all_at (λ y. p (h y)) ys i d lt no) (rw (← list_all-map p h ys) e)))
  where
    is_both : {b : Bool} → b ≡ false → b ≡ true → ⊥
    is_both e f = cc

    elim_not : (b : Bool) → (b ≡ false → b ≡ true) → b ≡ true
    elim_not true f = refl
    elim_not false f = f refl

-- what an element adds to the two parts of a list
parted_head : {X Y : Type 0} (o : Option Y) (x : X) (ys : List Y) (xs : List X) (n : ℕ) → length ys + length xs ≡ n
    → length (cons_option o ys) + length (cond (is_none o) (x ∷ xs) xs) ≡ suc n
parted_head None x ys xs n e = omega (arith, e)
parted_head (Some y) x ys xs n e = omega (arith, e)

-- each element is in one of the two parts
pub parted : {X Y : Type 0} (f : X → Option Y) (xs : List X) → length (filter_map f xs) + length (filter (λ x. is_none (f x)) xs) ≡ length xs
parted f [] = refl
parted f (x ∷ xs) = parted_head (f x) x (filter_map f xs) (filter (λ y. is_none (f y)) xs) (length xs) (parted f xs)
