-- Laws of tests of a list's elements.
use Rattle.std.proofs.Common.{◌≡◌, Bool, true, false, ◌&&◌, ◌||◌, List, [], ◌∷◌, refl, sym, ap, ◌∙◌}
use Rattle.std.specs.List.{list_any}

pub or_false : (a : Bool) → (a || false) ≡ a
or_false true = refl
or_false false = refl

pub or_true : (a : Bool) → (a || true) ≡ true
or_true true = refl
or_true false = refl

pub and_false : (a : Bool) → (a && false) ≡ false
and_false true = refl
and_false false = refl

pub both_true : {a b : Bool} → a ≡ true → b ≡ true → (a && b) ≡ true
both_true {a} {b} first second = ap (λ c. c && b) first ∙ second

pub or_assoc : (a b c : Bool) → ((a || b) || c) ≡ (a || (b || c))
or_assoc true b c = refl
or_assoc false b c = refl

pub and_or : (a b c : Bool) → (a && (b || c)) ≡ ((a && b) || (a && c))
and_or true b c = refl
and_or false b c = refl

pub and_assoc : (a b c : Bool) → ((a && b) && c) ≡ (a && (b && c))
and_assoc true b c = refl
and_assoc false b c = refl

pub or_and : (a b c : Bool) → ((a || b) && c) ≡ ((a && c) || (b && c))
or_and true true true = refl
or_and true true false = refl
or_and true false true = refl
or_and true false false = refl
or_and false b c = refl

or_swap : (a b c d : Bool) → ((a || b) || (c || d)) ≡ ((a || c) || (b || d))
or_swap true b c d = refl
or_swap false true true d = refl
or_swap false true false d = refl
or_swap false false c d = refl

module _ {X : Type 0} where
  pub list_any-or : (p q : X → Bool) (xs : List X) → list_any (λ x. p x || q x) xs ≡ (list_any p xs || list_any q xs)
  list_any-or p q [] = refl
  list_any-or p q (x ∷ xs) = ap (λ b. (p x || q x) || b) (list_any-or p q xs) ∙ or_swap (p x) (q x) (list_any p xs) (list_any q xs)

  pub list_any-and_left : (b : Bool) (p : X → Bool) (xs : List X) → list_any (λ x. b && p x) xs ≡ (b && list_any p xs)
  list_any-and_left true p [] = refl
  list_any-and_left false p [] = refl
  list_any-and_left b p (x ∷ xs) = ap (λ c. (b && p x) || c) (list_any-and_left b p xs) ∙ sym (and_or b (p x) (list_any p xs))

  pub list_any-and_right : (b : Bool) (p : X → Bool) (xs : List X) → list_any (λ x. p x && b) xs ≡ (list_any p xs && b)
  list_any-and_right b p [] = refl
  list_any-and_right b p (x ∷ xs) = ap (λ c. (p x && b) || c) (list_any-and_right b p xs) ∙ sym (or_and (p x) (list_any p xs) b)

  -- tests that agree find alike
  pub list_any-same : (p q : X → Bool) → ((x : X) → p x ≡ q x) → (xs : List X) → list_any p xs ≡ list_any q xs
  list_any-same p q h [] = refl
  list_any-same p q h (x ∷ xs) = ap (λ b. b || list_any p xs) (h x) ∙ ap (λ b. q x || b) (list_any-same p q h xs)

-- one more element, as at a step of a loop
pub more_at_sites : (o a b n s : Bool) → ((o || (n && (a && s))) || (n && (b && s))) ≡ (o || (n && ((a || b) && s)))
more_at_sites o a b n s = or_assoc o (n && (a && s)) (n && (b && s)) ∙ ap (λ x. o || x) (sym (and_or n (a && s) (b && s)) ∙ ap (λ x. n && x) (sym (or_and a b s)))

pub more_inside : (o m a b : Bool) → ((o || (m && a)) || (m && b)) ≡ (o || (m && (a || b)))
more_inside o m a b = or_assoc o (m && a) (m && b) ∙ ap (λ x. o || x) (sym (and_or m a b))
