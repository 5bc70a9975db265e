-- How a text of a stranger is shown: no character of it moves a cursor, ends a line or turns the direction of what is read.
use Rattle.std.specs.Prelude.{if◌then◌else◌, false, ◌≡◌, ◌==◌, ◌&&◌, ◌||◌, ◌++◌, ◌∷◌, [], List, ℕ, Bool, codes, chars, encode_utf8, flat_map, nat_le, nat_lt, IsUtf8}
use Rattle.std.specs.Str.{NoCharPasses}
use Rattle.std.specs.Fmt.{digits}

-- from the first code to the last one
abbrev pub is_from_to : ℕ → ℕ → ℕ → Bool
is_from_to first last code = nat_le first code && nat_le code last

-- below a space, DEL, and the controls behind it (C1)
abbrev pub is_control : ℕ → Bool
is_control code = nat_lt code 32 || is_from_to 127 159 code

-- the marks of left to right and of right to left, which also embed, override and isolate; the separators of lines and of paragraphs
abbrev pub is_mark : ℕ → Bool
is_mark code = code == 0x61c || is_from_to 0x200e 0x200f code || is_from_to 0x2028 0x202e code || is_from_to 0x2066 0x2069 code

-- what is never shown as it is
abbrev pub is_hidden : ℕ → Bool
is_hidden code = is_control code || is_mark code

-- what isn't shown as it is
abbrev pub is_altered : ℕ → Bool
is_altered code = is_hidden code || (code == 92)

-- `\u{1b}`, by the code in hexadecimal digits
abbrev pub escaped : ℕ → List ℕ
escaped code = 92 ∷ codes "u{" ++ digits 16 false code ++ codes "}"

-- a character as it is shown: hidden ones by their codes, a backslash twice, and any other as it is
unfoldable pub shown_char : ℕ → List ℕ
shown_char code = if is_hidden code then escaped code else (if code == 92 then 92 ∷ 92 ∷ [] else encode_utf8 code)

-- a text as it is shown
abbrev pub shown : List ℕ → List ℕ
shown text = flat_map shown_char (chars text)

-- ---- laws

-- two texts that are shown alike are one
abbrev pub ShownTextsAreToldApart : Type 0
ShownTextsAreToldApart = (one other : List ℕ) → IsUtf8 one → IsUtf8 other → shown one ≡ shown other → one ≡ other

-- a text without hidden characters and backslashes is shown as it is
abbrev pub PlainTextsStay : Type 0
PlainTextsStay = (text : List ℕ) → IsUtf8 text → NoCharPasses is_altered text → shown text ≡ text
