-- The id of a chain.
use Rattle.std.specs.Prelude.{ℕ, Bool, ◌&&◌, ◌||◌, ◌==◌, nat_le, List, length}
use Rattle.std.specs.List.{list_all}

-- a hexadecimal digit, in lower case
abbrev pub is_chain_digit : ℕ → Bool
is_chain_digit b = (nat_le 48 b && nat_le b 57) || (nat_le 97 b && nat_le b 102)

-- 32 of these
abbrev pub is_chain_id : List ℕ → Bool
is_chain_id text = (length text == 32) && list_all is_chain_digit text
