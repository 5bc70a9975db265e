-- A report and a trace as a picture for Graphviz, in its language DOT: no text of others becomes a part of the language.
use Rattle.std.specs.Prelude.{◌≡◌, ◌==◌, ⊤, ℕ, List, [], ◌∷◌, ◌++◌, All, codes, false, if◌then◌else◌}
use Rattle.std.specs.List.{flat_map, list_any}

-- ---- texts in quotes

-- the text with these bytes in place of a byte
unfoldable pub replaced : ℕ → List ℕ → List ℕ → List ℕ
replaced byte with text = flat_map (λ b. if b == byte then with else b ∷ []) text

-- Graphviz reads `&` as the beginning of a character's name, also in quotes
unfoldable pub with_entities : List ℕ → List ℕ
with_entities text = replaced 38 (codes "&amp;") text

-- a backslash before each quote and each backslash
unfoldable pub escaped : List ℕ → List ℕ
escaped text = flat_map (λ b. if b == 34 then 92 ∷ 34 ∷ [] else if b == 92 then 92 ∷ 92 ∷ [] else b ∷ []) text

unfoldable pub dot_text : List ℕ → List ℕ
dot_text text = 34 ∷ (escaped (with_entities text) ++ 34 ∷ [])

-- ---- pictures

-- words of the language, or a text in quotes
pub data Piece : Type 0 where
  words : List ℕ → Piece
  quoted : List ℕ → Piece

abbrev pub piece_text : Piece → List ℕ
piece_text (words text) = text
piece_text (quoted text) = dot_text text

-- the words have no quote
abbrev pub HasNoQuote : List ℕ → Type 0
HasNoQuote text = list_any (λ b. b == 34) text ≡ false

abbrev pub IsPiece : Piece → Type 0
IsPiece (words text) = HasNoQuote text
IsPiece (quoted text) = ⊤

-- It is made of such pieces, so each quote of it begins or ends a text in quotes, or stands in one behind a backslash.
pub record Drawing (text : List ℕ) : Type 0 where
  pub pieces : List Piece
  pub are : All IsPiece pieces
  pub is : text ≡ flat_map piece_text pieces

abbrev pub IsPicture : List ℕ → Type 0
IsPicture text = ∥ Drawing text ∥₁
