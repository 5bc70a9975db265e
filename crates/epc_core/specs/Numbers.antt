use Rattle.std.specs.Prelude.{◌≡◌, ℕ, ◌+◌, ◌-◌, ◌*◌, ◌%◌, Bool, ◌&&◌, ◌==◌, nat_le, IsTrue, List, [], ◌∷◌, ◌++◌, length, take, drop}
use Rattle.std.specs.List.{list_all}

-- a byte from '0' to '9'
abbrev pub is_digit : ℕ → Bool
is_digit b = nat_le 48 b && nat_le b 57

-- the values of the digits, from the left times `weight`, `next`, `weight`, `next` and so on, added up
abbrev pub weighted : ℕ → ℕ → List ℕ → ℕ
weighted weight next [] = 0
weighted weight next (d ∷ ds) = weight * (d - 48) + weighted next weight ds

-- `count` digits, the last of which checks the others: three times the digits in odd places from the left
-- and the digits in even places make a sum that 10 divides (GS1 General Specifications, check digit
-- calculations for GS1 data structures)
pub record IsChecked (count : ℕ) (digits : List ℕ) : Type 0 where
  pub counted : length digits ≡ count
  pub are_digits : IsTrue (list_all is_digit digits)
  pub sum : weighted 3 1 digits % 10 ≡ 0

-- whether `count` digits are so
abbrev pub is_checked : ℕ → List ℕ → Bool
is_checked count digits = length digits == count && (list_all is_digit digits && weighted 3 1 digits % 10 == 0)

-- the digit behind an odd number of digits that makes 10 divide the sum
abbrev pub check_digit : List ℕ → ℕ
check_digit digits = 48 + (10 - weighted 3 1 digits % 10) % 10

-- the digits of a GTIN or an SSCC before its check digit: the first digit of the reference (the indicator or
-- extension digit), the company prefix, the rest of the reference
abbrev pub leading : List ℕ → List ℕ → List ℕ
leading company reference = take 1 reference ++ (company ++ drop 1 reference)

-- that number
abbrev pub number_of : List ℕ → List ℕ → List ℕ
number_of company reference = leading company reference ++ check_digit (leading company reference) ∷ []

-- whether a company prefix of 6 to 12 digits and a reference are `count` digits together
abbrev pub are_parts : ℕ → List ℕ → List ℕ → Bool
are_parts count company reference = nat_le 6 (length company) && (nat_le (length company) 12
    && (length company + length reference == count && (list_all is_digit company && list_all is_digit reference)))
