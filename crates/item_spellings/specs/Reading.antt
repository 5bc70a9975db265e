-- The elements of a text, computed. `IsWriting` of Writing.antt says without steps which they are.
use Rattle.std.specs.Prelude.{◌==◌, ◌&&◌, ℕ, zero, suc, Bool, false, nat_le, if◌then◌else◌, List, [], ◌∷◌, codes, length, take, drop, Option, Some, None, option_map, unwrap_or}
use Rattle.std.specs.List.{list_all}
use Rattle.std.specs.Option.{option_or, option_and_then}
use Rattle.epc_core.specs.Numbers.{is_digit}
use Rattle.epc_core.specs.Items.{behind}
use Rattle.item_spellings.specs.Elements.{Element, ai_length, first_two, fixed_length, fits}
use Rattle.item_spellings.specs.Writing.{separator}
use Rattle.item_spellings.specs.declared.forms.Form.{Form}
use Rattle.item_spellings.specs.declared.forms.Form.TheVariants.{Bracketed, Carried}

-- whether a text begins with this byte
abbrev pub opens : ℕ → List ℕ → Bool
opens byte [] = false
opens byte (b ∷ bs) = b == byte

-- a text without this byte in front
abbrev pub past : ℕ → List ℕ → List ℕ
past byte text = if opens byte text then drop 1 text else text

-- how many bytes stand before the first such byte, or at all where there is none
abbrev pub before : ℕ → List ℕ → ℕ
before byte [] = 0
before byte (b ∷ bs) = if b == byte then 0 else suc (before byte bs)

-- ---- the first element

-- whether a text begins with an AI of this many digits
abbrev pub has_ai : ℕ → List ℕ → Bool
has_ai n text = nat_le 1 n && (nat_le n (length text) && list_all is_digit (take n text))

-- the AI in front of a text, and what is behind it
abbrev pub ai_of : List ℕ → Option (List ℕ × List ℕ)
ai_of text =
    if has_ai (ai_length (first_two text)) text
    then Some (take (ai_length (first_two text)) text, drop (ai_length (first_two text)) text)
    else None

-- how many bytes the value has that begins a text
abbrev pub value_count : Form → ℕ → List ℕ → ℕ
value_count Bracketed fixed text = before 40 text
value_count Carried fixed text = if fixed == 0 then before separator text else fixed

-- what is behind a value, without the separator
abbrev pub unseparated : Form → List ℕ → List ℕ
unseparated Bracketed text = text
unseparated Carried text = past separator text

-- the value of an AI in front of a text, and what is behind it
abbrev pub value_of : Form → List ℕ → List ℕ → Option (Element × List ℕ)
value_of form ai text = cut (value_count form (fixed_length (first_two ai)) text) where
  cut : ℕ → Option (Element × List ℕ)
  cut n =
      if nat_le n (length text) && fits (fixed_length (first_two ai)) (take n text)
      then Some ((ai, take n text), unseparated form (drop n text))
      else None

-- behind the AI in brackets
abbrev pub closing_value : List ℕ × List ℕ → Option (Element × List ℕ)
closing_value parts = if opens 41 parts.1 then value_of Bracketed parts.0 (drop 1 parts.1) else None

abbrev pub first_element : Form → List ℕ → Option (Element × List ℕ)
first_element Bracketed text = if opens 40 text then option_and_then closing_value (ai_of (drop 1 text)) else None
first_element Carried text = option_and_then (λ parts. value_of Carried parts.0 parts.1) (ai_of text)

-- ---- all elements

-- of a text of at most so many elements
abbrev pub elements_in : Form → ℕ → List ℕ → Option (List Element)
elements_in form n [] = Some []
elements_in form zero (b ∷ bs) = None
elements_in form (suc n) (b ∷ bs) = option_and_then (λ found. option_map (λ es. found.0 ∷ es) (elements_in form n found.1)) (first_element form (b ∷ bs))

abbrev pub all_elements : Form → List ℕ → Option (List Element)
all_elements form text = elements_in form (length text) text

-- a text without its symbology identifier, if it has one
abbrev pub unidentified : List ℕ → Option (List ℕ)
unidentified text =
    option_or (behind (codes "]d2") text)
    (option_or (behind (codes "]C1") text)
    (option_or (behind (codes "]e0") text)
    (option_or (behind (codes "]Q3") text)
    (behind (codes "]J1") text))))

-- the elements of a text
unfoldable pub elements_of : List ℕ → Option (List Element)
elements_of text =
    if opens 40 text
    then all_elements Bracketed text
    else all_elements Carried (past separator (unwrap_or (unidentified text) text))
