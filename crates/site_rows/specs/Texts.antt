-- Texts by their bytes.
use Rattle.std.specs.Prelude.{◌≡◌, ℕ, List, Option, Some, None, IfSome, IsUtf8}
use Rattle.std.specs.Ordering.{nat_cmp}
use Rattle.std.specs.Cmp.Lexicographic.{slice_cmp}
use Rattle.std.specs.declared.cmp.Ordering.{Ordering}
use Rattle.epc_core.specs.Spellings.{IsKey, IsPlain}

abbrev pub text_cmp : List ℕ → List ℕ → Ordering
text_cmp a b = slice_cmp nat_cmp a b

-- these bytes as a text, where they are UTF-8
abbrev pub Reads : Option (List ℕ) → List ℕ → Type 0
Reads None bytes = IsUtf8 bytes → ⊥
Reads (Some text) bytes = (text ≡ bytes) × IsUtf8 bytes

-- the key of an item, in UTF-8
abbrev pub IsItemText : List ℕ → Type 0
IsItemText text = IsKey text × IsUtf8 text

-- a plain text, in UTF-8
abbrev pub IsPlainText : List ℕ → Type 0
IsPlainText text = IsPlain text × IsUtf8 text

-- where there is one it is that
abbrev pub IsTextOrNone : Option (List ℕ) → Type 0
IsTextOrNone text = IfSome text IsPlainText
