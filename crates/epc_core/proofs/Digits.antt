-- What is known of lists of digits.
use Rattle.std.proofs.Common.{◌≡◌, ℕ, ◌≤◌, Bool, true, List, [], ◌∷◌, ◌++◌, leb, refl, sym, ◌∙◌}
use Rattle.std.proofs.lemmas.Bool.{and_parts, and_from, leb-true}
use Rattle.std.proofs.lemmas.List.Folds.{list_all-append}
use Rattle.std.specs.List.{list_all}
use Rattle.epc_core.specs.Numbers.{is_digit, leading}

pub digit_range : (b : ℕ) → is_digit b ≡ true → (48 ≤ b) × (b ≤ 57)
digit_range b h = let p = and_parts (leb 48 b) (leb b 57) h in (leb-true 48 b p.0, leb-true b 57 p.1)

-- a test of each element of two lists, one after the other
pub all_append : (test : ℕ → Bool) (xs ys : List ℕ) → list_all test xs ≡ true → list_all test ys ≡ true → list_all test (xs ++ ys) ≡ true
all_append test xs ys h k = list_all-append test xs ys ∙ and_from _ _ h k

pub all_parts : (test : ℕ → Bool) (xs ys : List ℕ) → list_all test (xs ++ ys) ≡ true → (list_all test xs ≡ true) × (list_all test ys ≡ true)
all_parts test xs ys h = and_parts _ _ (sym (list_all-append test xs ys) ∙ h)

pub leading_digits : (company reference : List ℕ) → list_all is_digit company ≡ true → list_all is_digit reference ≡ true → list_all is_digit (leading company reference) ≡ true
leading_digits company [] h k = all_append is_digit company [] h refl
leading_digits company (r ∷ rs) h k =
    let p = and_parts (is_digit r) (list_all is_digit rs) k in
    and_from (is_digit r) (list_all is_digit (company ++ rs)) p.0 (all_append is_digit company rs h p.1)
