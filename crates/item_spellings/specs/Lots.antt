-- A lot as an item: a GTIN with a batch or lot number (GS1 General Specifications, application identifiers 01 and 10).
use Rattle.std.specs.Prelude.{ℕ, Bool, ◌==◌, ◌&&◌, ◌||◌, nat_le, if◌then◌else◌, List, [], ◌∷◌, ◌++◌, codes}
use Rattle.std.specs.List.{flat_map}
use Rattle.percent_encoding.specs.Percent.{percent_encode_byte}

-- a letter, a digit, `-`, `.` or `_`
abbrev pub is_kept : ℕ → Bool
is_kept b = (nat_le 65 b && nat_le b 90) || (nat_le 97 b && nat_le b 122) || (nat_le 48 b && nat_le b 57) || b == 45 || b == 46 || b == 95

-- any other byte is `%` and two digits, of capital letters
abbrev pub escape_byte : ℕ → List ℕ
escape_byte b = if is_kept b then b ∷ [] else percent_encode_byte b

abbrev pub escape : List ℕ → List ℕ
escape number = flat_map escape_byte number

-- the one spelling of a lot as an item (GS1 Digital Link standard, URI syntax)
abbrev pub lot_text : List ℕ → List ℕ → List ℕ
lot_text gtin number = codes "https://id.gs1.org/01/" ++ (gtin ++ (codes "/10/" ++ escape number))
