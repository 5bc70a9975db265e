-- the lines of a text
use Rattle.std.specs.Prelude.{◌≡◌, ◌<◌, ◌+◌, ℕ, Bool, false, ◌==◌, List, ◌∷◌, take, drop, length, All}

-- LF, which ends a line
abbrev pub is_newline : ℕ → Bool
is_newline b = b == 10

-- no byte ends a line
abbrev pub IsWithinLine : List ℕ → Type 0
IsWithinLine bytes = All (λ b. is_newline b ≡ false) bytes

-- the first line of the bytes ends here
pub record EndsAt (bytes : List ℕ) (end : ℕ) : Type 0 where
  pub inside : end < length bytes
  pub within : IsWithinLine (take end bytes)
  pub newline : drop end bytes ≡ 10 ∷ drop (end + 1) bytes
