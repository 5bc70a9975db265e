-- Numbers and recalls as a line writes them.
use Rattle.std.specs.Prelude.{ℕ, Bool, ◌&&◌, ◌==◌, nat_le, if◌then◌else◌, List, length, Option, Some, None, option_map}
use Rattle.std.specs.List.{list_all, before_first, after_first}
use Rattle.std.specs.Str.Parse.{digits_value}

abbrev pub is_digit : ℕ → Bool
is_digit b = nat_le 48 b && nat_le b 57

-- 1 to 18 digits, of which the first may be 0
abbrev pub is_number : List ℕ → Bool
is_number text = nat_le 1 (length text) && nat_le (length text) 18 && list_all is_digit text

-- the number that a text says in decimal digits
unfoldable pub number_of : List ℕ → Option ℕ
number_of text = if is_number text then Some (digits_value 10 text) else None

abbrev pub is_hash : ℕ → Bool
is_hash b = b == 35

-- a recall is the name of a site, `#` and a number
unfoldable pub recall_of : List ℕ → Option (List ℕ × ℕ)
recall_of text =
    if length (before_first is_hash text) == 0 then None else option_map (λ number. (before_first is_hash text, number)) (number_of (after_first is_hash text))
