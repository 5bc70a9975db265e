-- How element strings are written one behind another: as they are printed below a bar code, with brackets, and as a bar code
-- carries them.
use Rattle.std.specs.Prelude.{◌≡◌, ◌≢◌, ◌⊎◌, ◌==◌, ℕ, Bool, not, IsTrue, List, [], ◌∷◌, ◌++◌, codes}
use Rattle.std.specs.List.{list_all}
use Rattle.item_spellings.specs.Elements.{Element, IsElement, first_two, fixed_length}
use Rattle.item_spellings.specs.declared.forms.Form.{Form}
use Rattle.item_spellings.specs.declared.forms.Form.TheVariants.{Bracketed, Carried}

-- the byte that a scanner gives for FNC1 behind a value: the control character GS, 29 (GS1 General Specifications,
-- section 7.8: the separator character)
abbrev pub separator : ℕ
separator = 29

-- no such byte is in a text
abbrev pub lacks : ℕ → List ℕ → Bool
lacks byte text = list_all (λ b. not (b == byte)) text

-- An element in front of a text, and what is behind it. In brackets (section 4.14: human readable interpretation): `(`, the AI,
-- `)` and the value, in which there is no `(`. As a bar code carries it: AI and value, and then a separator and the rest; or the
-- rest at once, where the value has a predefined length or nothing is left.
abbrev pub Follows : Form → Element → List ℕ → List ℕ → Type 0
Follows Bracketed e rest text = (text ≡ 40 ∷ (e.0 ++ (41 ∷ (e.1 ++ rest)))) × IsTrue (lacks 40 e.1)
Follows Carried e rest text =
    (text ≡ e.0 ++ (e.1 ++ (separator ∷ rest)))
    ⊎ ((text ≡ e.0 ++ (e.1 ++ rest)) × ((fixed_length (first_two e.0) ≢ 0) ⊎ (rest ≡ [])))

-- the text is these elements, one behind another
abbrev pub AreElements : Form → List Element → List ℕ → Type 0
AreElements form [] text = text ≡ []
AreElements form (e ∷ es) text = (rest : List ℕ) × IsElement e × Follows form e rest text × AreElements form es rest

-- the symbology identifier of GS1 DataMatrix, GS1-128, GS1 DataBar, GS1 QR Code or GS1 DotCode (section 5.1)
abbrev pub IsIdentifier : List ℕ → Type 0
IsIdentifier name =
    (name ≡ codes "]d2") ⊎ ((name ≡ codes "]C1") ⊎ ((name ≡ codes "]e0") ⊎ ((name ≡ codes "]Q3") ⊎ (name ≡ codes "]J1"))))

-- what may stand before elements as a bar code carries them: a symbology identifier or none, and behind it an FNC1 or none
pub record IsFront (front : List ℕ) : Type 0 where
  pub name : List ℕ
  pub known : (name ≡ []) ⊎ IsIdentifier name
  pub is : (front ≡ name) ⊎ (front ≡ name ++ separator ∷ [])

pub record IsRaw (es : List Element) (text : List ℕ) : Type 0 where
  pub front : List ℕ
  pub rest : List ℕ
  pub is_front : IsFront front
  pub carried : AreElements Carried es rest
  pub is : text ≡ front ++ rest

-- the text is written of these elements, in one of the two ways
abbrev pub IsWriting : List Element → List ℕ → Type 0
IsWriting es text = AreElements Bracketed es text ⊎ IsRaw es text
