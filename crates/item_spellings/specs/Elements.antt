-- Element strings: an application identifier (AI) and its value (GS1 General Specifications, section 3 and section 7.8).
use Rattle.std.specs.Prelude.{◌≡◌, ◌==◌, ◌&&◌, ◌||◌, ℕ, ◌+◌, ◌-◌, ◌*◌, ◌<◌, Bool, nat_le, if◌then◌else◌, IsTrue, List, [], ◌∷◌, length}
use Rattle.std.specs.List.{list_all}
use Rattle.epc_core.specs.Numbers.{is_digit}
use Rattle.epc_core.specs.Serials.{is_serial_byte}

-- an AI and its value
abbrev pub Element : Type 0
Element = List ℕ × List ℕ

-- the number that the first two digits of a text spell, and 100 where it doesn't begin with two digits
abbrev pub first_two : List ℕ → ℕ
first_two [] = 100
first_two (b ∷ []) = 100
first_two (b ∷ c ∷ bs) = if is_digit b && is_digit c then 10 * (b - 48) + (c - 48) else 100

abbrev pub within : ℕ → ℕ → ℕ → Bool
within least most n = nat_le least n && nat_le n most

-- How many digits an AI has, by its first two; 0 where no AI begins so (GS1 General Specifications, section 3.2: AIs in
-- numerical order). 03, 04, 14, 18 and 19 begin a value of predefined length, whether or not an AI is assigned.
abbrev pub ai_length : ℕ → ℕ
ai_length n =
    if within 0 4 n || within 10 22 n || n == 30 || n == 37 || within 90 99 n then 2 else
    if within 23 25 n || within 40 42 n || n == 71 then 3 else
    if within 31 36 n || n == 39 || n == 43 || n == 70 || n == 72 || within 80 82 n then 4 else
    0

-- How many digits its value has, where that is predefined by the first two digits of the AI; 0 where it isn't (section
-- 7.8: element strings with predefined length).
abbrev pub fixed_length : ℕ → ℕ
fixed_length n =
    if n == 0 then 18 else
    if within 1 3 n then 14 else
    if n == 4 then 16 else
    if within 11 19 n || within 31 36 n then 6 else
    if n == 20 then 2 else
    if n == 41 then 13 else
    0

-- a character of a value: one of the 82 of a serial number, or `#`, which character set 39 has (section 7.11)
abbrev pub is_value_byte : ℕ → Bool
is_value_byte b = is_serial_byte b || b == 35

-- whether a value has the predefined number of digits, or, where that is 0, 1 to 90 of these characters, which is the
-- most that an AI has
abbrev pub fits : ℕ → List ℕ → Bool
fits fixed value =
    if fixed == 0
    then nat_le 1 (length value) && (nat_le (length value) 90 && list_all is_value_byte value)
    else length value == fixed && list_all is_digit value

-- an AI of as many digits as its first two say, and a value that fits it
pub record IsElement (e : Element) : Type 0 where
  pub some : 0 < length e.0
  pub counted : ai_length (first_two e.0) ≡ length e.0
  pub digits : IsTrue (list_all is_digit e.0)
  pub value : IsTrue (fits (fixed_length (first_two e.0)) e.1)
