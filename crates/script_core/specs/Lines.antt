use Rattle.std.specs.Prelude.{◌<◌, ◌≤◌, ℕ, List, [], ◌∷◌, ◌++◌, length, All}
use Rattle.std.specs.List.{flat_map, slice_split}
use Rattle.recall_text.specs.Lines.{is_newline, IsWithinLine}

-- the most bytes of a line before its LF
abbrev pub longest_line : ℕ
longest_line = 16777216

-- a line of at most so many bytes before its LF is held without further memory
abbrev pub room : ℕ
room = 8192

-- a line without its LF, or the beginning of one
pub record IsLine (bytes : List ℕ) : Type 0 where
  pub within : IsWithinLine bytes
  pub fits : length bytes ≤ longest_line

-- more bytes without a LF than a line may have
pub record IsTooLong (bytes : List ℕ) : Type 0 where
  pub within : IsWithinLine bytes
  pub exceeds : longest_line < length bytes

-- no line of the script is too long
abbrev pub LinesFit : List ℕ → Type 0
LinesFit script = All (λ line. length line ≤ longest_line) (slice_split is_newline script)

-- whole lines: each with its LF behind it
abbrev pub with_newlines : List (List ℕ) → List ℕ
with_newlines whole = flat_map (λ line. line ++ 10 ∷ []) whole
