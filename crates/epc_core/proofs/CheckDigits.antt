-- The check digit, as the code computes it, is the one digit with which 10 divides the sum.
use Rattle.std.proofs.Common.{◌≡◌, ℕ, ◌+◌, ◌-◌, ◌*◌, ◌%◌, ◌<◌, zero, suc, true, List, [], ◌∷◌, ◌++◌, length, refl, sym, ap, ◌∙◌, arith, append_assoc, length-append}
use Rattle.std.specs.List.{list_all}
use Rattle.std.proofs.lemmas.Bool.{and_parts, and_from, le-leb}
use Rattle.epc_core.specs.Numbers.{is_digit, weighted, IsChecked, check_digit, leading, number_of}
use Rattle.epc_core.proofs.Digits.{digit_range, all_append, all_parts, leading_digits}

-- the weight of the place n, from 0
abbrev pub weight_at : ℕ → ℕ → ℕ → ℕ
weight_at weight next zero = weight
weight_at weight next (suc n) = weight_at next weight n

pub weighted-push : (weight next : ℕ) (xs : List ℕ) (c : ℕ) → weighted weight next (xs ++ c ∷ []) ≡ weighted weight next xs + weight_at weight next (length xs) * (c - 48)
weighted-push weight next [] c = omega arith
weighted-push weight next (x ∷ xs) c = let tail = weighted-push next weight xs c in omega (arith, tail)

pub completes : (sum : ℕ) → (sum + (10 - sum % 10) % 10) % 10 ≡ 0
completes sum = omega arith

pub completed : (sum value : ℕ) → value < 10 → (sum + value) % 10 ≡ 0 → value ≡ (10 - sum % 10) % 10
completed sum value small h = omega arith

-- behind a number of digits whose next weight is 1
pub checked-push : (xs : List ℕ) → weight_at 3 1 (length xs) ≡ 1 → weighted 3 1 (xs ++ check_digit xs ∷ []) % 10 ≡ 0
checked-push xs odd =
    let sum : weighted 3 1 (xs ++ check_digit xs ∷ []) ≡ weighted 3 1 xs + (10 - weighted 3 1 xs % 10) % 10 =
    weighted-push 3 1 xs (check_digit xs) ∙ rw odd (omega arith) in
    ap (λ n. n % 10) sum ∙ completes (weighted 3 1 xs)

pub check_digit_only : (xs : List ℕ) (c : ℕ) → weight_at 3 1 (length xs) ≡ 1 → is_digit c ≡ true → weighted 3 1 (xs ++ c ∷ []) % 10 ≡ 0 → c ≡ check_digit xs
check_digit_only xs c odd digit h =
    let range = digit_range c digit in
    let sum : weighted 3 1 (xs ++ c ∷ []) ≡ weighted 3 1 xs + (c - 48) = weighted-push 3 1 xs c ∙ rw odd (omega arith) in
    let value = completed (weighted 3 1 xs) (c - 48) (omega arith) (ap (λ n. n % 10) (sym sum) ∙ h) in
    omega (arith, value, range)

pub check_digit_is_digit : (xs : List ℕ) → is_digit (check_digit xs) ≡ true
check_digit_is_digit xs = and_from _ _ (le-leb 48 (check_digit xs) (omega arith)) (le-leb (check_digit xs) 57 (omega arith))

pub length-leading : (company reference : List ℕ) → length (leading company reference) ≡ length company + length reference
length-leading company [] = omega (arith, length-append company [])
length-leading company (r ∷ rs) = omega (arith, length-append company rs)

-- a number made of a company prefix and a reference, in the words of the definition
pub number_spelled : (company : List ℕ) (first : ℕ) (rest : List ℕ) (check : ℕ) → leading company (first ∷ rest) ++ check ∷ [] ≡ first ∷ (company ++ (rest ++ check ∷ []))
number_spelled company first rest check = ap (λ t. first ∷ t) (append_assoc company rest (check ∷ []))

-- the number that the code makes is checked
pub number_checked : (count : ℕ) (company : List ℕ) (first : ℕ) (rest : List ℕ) → weight_at 3 1 count ≡ 1
    → length company + length (first ∷ rest) ≡ count → list_all is_digit company ≡ true → list_all is_digit (first ∷ rest) ≡ true
    → IsChecked (suc count) (number_of company (first ∷ rest))
number_checked count company first rest odd counted digits others = record {
  counted = omega (arith, length-append (leading company (first ∷ rest)) (check_digit (leading company (first ∷ rest)) ∷ []), length-leading company (first ∷ rest));
  are_digits = all_append is_digit (leading company (first ∷ rest)) _ (leading_digits company (first ∷ rest) digits others) (and_from _ _ (check_digit_is_digit (leading company (first ∷ rest))) refl);
  sum = checked-push (leading company (first ∷ rest)) (ap (weight_at 3 1) (length-leading company (first ∷ rest) ∙ counted) ∙ odd);
}

-- a checked number is the one that the code makes
pub number_from_checked : (count : ℕ) (company : List ℕ) (first : ℕ) (rest : List ℕ) (check : ℕ) → weight_at 3 1 count ≡ 1
    → IsChecked (suc count) (first ∷ (company ++ (rest ++ check ∷ [])))
    → (length company + length (first ∷ rest) ≡ count) × (list_all is_digit company ≡ true) × (list_all is_digit (first ∷ rest) ≡ true)
    × (number_of company (first ∷ rest) ≡ first ∷ (company ++ (rest ++ check ∷ [])))
number_from_checked count company first rest check odd checked =
    let one = length-append company (rest ++ check ∷ []) in
    let two = length-append rest (check ∷ []) in
    let all = checked.counted in
    let counted : length company + length (first ∷ rest) ≡ count = omega arith in
    let head = and_parts _ _ checked.are_digits in
    let parts = all_parts is_digit company (rest ++ check ∷ []) head.1 in
    let ends = all_parts is_digit rest (check ∷ []) parts.1 in
    let last = and_parts _ _ ends.1 in
    let places = ap (weight_at 3 1) (length-leading company (first ∷ rest) ∙ counted) ∙ odd in
    let sum = ap (λ ds. weighted 3 1 ds % 10) (number_spelled company first rest check) ∙ checked.sum in
    let same = check_digit_only (leading company (first ∷ rest)) check places last.0 sum in (
      counted,
      parts.0,
      and_from _ _ head.0 ends.0,
      ap (λ d. leading company (first ∷ rest) ++ d ∷ []) (sym same) ∙ number_spelled company first rest check,
    )
