-- the fields of a line, which one or more spaces part
use Rattle.std.specs.Prelude.{◌≡◌, ◌<◌, ℕ, Bool, false, true, not, ◌==◌, List, [], ◌∷◌, length, filter, All}
use Rattle.std.specs.List.{slice_split}

abbrev pub is_space : ℕ → Bool
is_space b = b == 32

-- all fields in order: the parts between the spaces that have a byte
abbrev pub fields : List ℕ → List (List ℕ)
fields text = filter (λ field. not (length field == 0)) (slice_split is_space text)

abbrev pub AreSpaces : List ℕ → Type 0
AreSpaces bytes = All (λ b. is_space b ≡ true) bytes

-- a field by itself
pub record IsField (bytes : List ℕ) : Type 0 where
  pub some : 0 < length bytes
  pub within : All (λ b. is_space b ≡ false) bytes

-- a text that begins with a field
abbrev pub BeginsWithField : List ℕ → Type 0
BeginsWithField [] = ⊥
BeginsWithField (b ∷ bs) = is_space b ≡ false
