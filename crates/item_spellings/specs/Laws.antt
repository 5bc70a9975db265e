use Rattle.std.specs.Prelude.{◌≡◌, ◌↔◌, ◌⊎◌, ⊤, ◌+◌, ◌==◌, ℕ, false, List, [], ◌∷◌, codes, Some, Ok, Err}
use Rattle.std.specs.List.{Contains, list_any}
use Rattle.epc_core.specs.Items.{sgtin_key, sscc_key, uri_key}
use Rattle.epc_core.specs.Numbers.{IsChecked}
use Rattle.epc_core.specs.Serials.{IsSerial}
use Rattle.epc_core.specs.Spellings.{IsKey, Spells}
use Rattle.item_spellings.specs.Elements.{Element, ai_length, fixed_length}
use Rattle.item_spellings.specs.Keys.{key_reading}
use Rattle.item_spellings.specs.LotParts.{IsLotOf, lot_number, lot_parts_of}
use Rattle.item_spellings.specs.Lots.{escape, lot_text}
use Rattle.item_spellings.specs.Reading.{elements_of}
use Rattle.item_spellings.specs.Scans.{item_of, scan_reading}
use Rattle.item_spellings.specs.Writing.{IsWriting}
use Rattle.item_spellings.specs.declared.faults.ScanFault.TheVariants.{NoElements}

-- what is read are the elements of which the text is written
abbrev pub ReadsWhatIsWritten : Type 0
ReadsWhatIsWritten = (es : List Element) (text : List ℕ) → (elements_of text ≡ Some es) ↔ IsWriting es text

-- each element with this AI has this value, and there is one
pub record IsValue (ai value : List ℕ) (es : List Element) : Type 0 where
  pub there : Contains es (ai, value)
  pub same : (other : List ℕ) → Contains es (ai, other) → other ≡ value

-- no element has this AI
abbrev pub Lacks : List ℕ → List Element → Type 0
Lacks ai es = (value : List ℕ) → ¬ Contains es (ai, value)

-- a GTIN and a serial number, wherever they stand and whatever stands beside them
pub record NamesSgtin (es : List Element) (key : List ℕ) : Type 0 where
  pub gtin : List ℕ
  pub serial : List ℕ
  pub gtin_is : IsValue (codes "01") gtin es
  pub serial_is : IsValue (codes "21") serial es
  pub no_sscc : Lacks (codes "00") es
  pub checked : IsChecked 14 gtin
  pub allowed : IsSerial serial
  pub names : key ≡ sgtin_key gtin serial

-- no two elements with this AI have different values
abbrev pub Agrees : List ℕ → List Element → Type 0
Agrees ai es = (value other : List ℕ) → Contains es (ai, value) → Contains es (ai, other) → value ≡ other

-- an SSCC, and not both a GTIN and a serial number
pub record NamesSscc (es : List Element) (key : List ℕ) : Type 0 where
  pub sscc : List ℕ
  pub sscc_is : IsValue (codes "00") sscc es
  pub gtin_agrees : Agrees (codes "01") es
  pub serial_agrees : Agrees (codes "21") es
  pub no_other : Lacks (codes "01") es ⊎ Lacks (codes "21") es
  pub checked : IsChecked 18 sscc
  pub names : key ≡ sscc_key sscc

-- a GTIN and a lot, without a serial number and an SSCC
pub record NamesLot (es : List Element) (key : List ℕ) : Type 0 where
  pub gtin : List ℕ
  pub lot : List ℕ
  pub gtin_is : IsValue (codes "01") gtin es
  pub lot_is : IsValue (codes "10") lot es
  pub no_sscc : Lacks (codes "00") es
  pub no_serial : Lacks (codes "21") es
  pub checked : IsChecked 14 gtin
  pub allowed : IsSerial lot
  pub names : key ≡ uri_key (lot_text gtin lot)

-- the item of this key is a unit or a lot
abbrev pub Names : List Element → List ℕ → Type 0
Names es key = NamesSgtin es key ⊎ (NamesSscc es key ⊎ NamesLot es key)

-- elements name the item of their GTIN and serial number, or of their SSCC, or of their GTIN and lot, in whatever order they stand
abbrev pub ElementsNameItems : Type 0
ElementsNameItems = (es : List Element) (key : List ℕ) → (item_of es ≡ Ok key) ↔ Names es key

-- a scanned text spells the item that the elements name of which it is written
abbrev pub ScansSpellItems : Type 0
ScansSpellItems = (text key : List ℕ) → (scan_reading text ≡ Ok key) ↔ ((es : List Element) × IsWriting es text × Names es key)

-- the item that a lot names is the one that its text spells
abbrev pub LotsAreSpelled : Type 0
LotsAreSpelled = (gtin lot : List ℕ) → IsChecked 14 gtin → IsSerial lot → Spells (lot_text gtin lot) (uri_key (lot_text gtin lot))

-- the parts of a key are the GTIN and the number of the lot that it is the key of, and there are none of any other
abbrev pub LotsHaveParts : Type 0
LotsHaveParts = (key gtin number : List ℕ) → (lot_parts_of key ≡ Some (gtin, number)) ↔ IsLotOf key gtin number

-- a lot's text has the GTIN and a number that tells the lot's own
abbrev pub LotNumbersAreDecoded : Type 0
LotNumbersAreDecoded =
    (gtin lot : List ℕ) → IsChecked 14 gtin → IsSerial lot → (lot_parts_of (uri_key (lot_text gtin lot)) ≡ Some (gtin, escape lot)) × (lot_number (escape lot) ≡ lot)

-- a text is refused for want of elements where it is written of none
abbrev pub OtherTextsAreRefused : Type 0
OtherTextsAreRefused = (text : List ℕ) → (scan_reading text ≡ Err NoElements) ↔ ((es : List Element) → ¬ IsWriting es text)

-- a text is read as a key where it is one, and as no other
abbrev pub KeysAreRead : Type 0
KeysAreRead = (text key : List ℕ) → (key_reading text ≡ Some key) ↔ ((text ≡ key) × IsKey key)

-- by the first two digits of an element string how many characters it has, with its identifier, where these digits tell it (GS1 General
-- Specifications, section 7.8: element strings with predefined length)
abbrev pub predefined : List (ℕ × ℕ)
predefined =
    (0, 20) ∷ (1, 16) ∷ (2, 16) ∷ (3, 16) ∷ (4, 18) ∷ (11, 8) ∷ (12, 8) ∷ (13, 8) ∷ (14, 8) ∷ (15, 8) ∷ (16, 8) ∷ (17, 8)
    ∷ (18, 8) ∷ (19, 8) ∷ (20, 4) ∷ (31, 10) ∷ (32, 10) ∷ (33, 10) ∷ (34, 10) ∷ (35, 10) ∷ (36, 10) ∷ (41, 16) ∷ []

-- the identifier and the value have so many together
abbrev pub HaveLengths : List (ℕ × ℕ) → Type 0
HaveLengths [] = ⊤
HaveLengths (row ∷ rows) = (ai_length row.0 + fixed_length row.0 ≡ row.1) × HaveLengths rows

-- these have predefined lengths, and no other
pub record LengthsAreThese : Type 0 where
  pub each : HaveLengths predefined
  pub no_other : (first : ℕ) → list_any (λ row. row.0 == first) predefined ≡ false → fixed_length first ≡ 0
