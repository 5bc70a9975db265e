use Rattle.std.specs.Prelude.{◌≡◌, ℕ, ◌≤◌, ◌⊎◌, IsTrue, List, [], ◌∷◌, ◌++◌, codes, length}
use Rattle.std.specs.List.{list_all}
use Rattle.percent_encoding.specs.Percent.{percent_decode}
use Rattle.epc_core.specs.Numbers.{IsChecked}
use Rattle.epc_core.specs.Serials.{IsSerial, is_part_byte}
use Rattle.epc_core.specs.Items.{is_plain_byte, sgtin_key, sscc_key, uri_key}

-- Which item a text spells. The GS1 EPC Tag Data Standard gives the EPC URIs (section 6.3), the GS1 Digital Link
-- standard the web addresses; the first parts a number behind its company prefix, the second gives it whole.

-- a text with 1 to 512 bytes, none of them a control byte, a space or DEL
pub record IsPlain (text : List ℕ) : Type 0 where
  pub some : 1 ≤ length text
  pub few : length text ≤ 512
  pub allowed : IsTrue (list_all is_plain_byte text)

-- `urn:epc:id:sgtin:CompanyPrefix.ItemReference.SerialNumber` (EPC Tag Data Standard, section 6.3.1), where the item
-- reference begins with the indicator digit
abbrev pub sgtin_uri : List ℕ → ℕ → List ℕ → List ℕ → List ℕ
sgtin_uri company indicator item escaped = codes "urn:epc:id:sgtin:" ++ (company ++ (codes "." ++ (indicator ∷ (item ++ (codes "." ++ escaped)))))

-- `https://id.gs1.org/01/GTIN/21/SERIAL` (GS1 Digital Link standard, URI syntax: application identifiers 01 and 21)
abbrev pub sgtin_link : List ℕ → List ℕ → List ℕ
sgtin_link gtin escaped = codes "https://id.gs1.org/01/" ++ (gtin ++ (codes "/21/" ++ escaped))

-- `urn:epc:id:sscc:CompanyPrefix.SerialReference` (EPC Tag Data Standard, section 6.3.2), where the serial reference
-- begins with the extension digit
abbrev pub sscc_uri : List ℕ → ℕ → List ℕ → List ℕ
sscc_uri company extension reference = codes "urn:epc:id:sscc:" ++ (company ++ (codes "." ++ (extension ∷ reference)))

-- `https://id.gs1.org/00/SSCC` (GS1 Digital Link standard, URI syntax: application identifier 00)
abbrev pub sscc_link : List ℕ → List ℕ
sscc_link sscc = codes "https://id.gs1.org/00/" ++ sscc

-- the GTIN-14 or SSCC-18 of these parts: the first digit, the company prefix, the rest, and the check digit, which
-- isn't in the EPC URI
abbrev pub whole_number : List ℕ → ℕ → List ℕ → ℕ → List ℕ
whole_number company first rest check = first ∷ (company ++ (rest ++ check ∷ []))

-- an EPC URI of a GTIN with a serial number
pub record SgtinUri (text key : List ℕ) : Type 0 where
  pub company : List ℕ
  pub indicator : ℕ
  pub item : List ℕ
  pub check : ℕ
  pub escaped : List ℕ
  pub is : text ≡ sgtin_uri company indicator item escaped
  pub least : 6 ≤ length company
  pub most : length company ≤ 12
  pub gtin : IsChecked 14 (whole_number company indicator item check)
  pub serial : IsSerial (percent_decode escaped)
  pub names : key ≡ sgtin_key (whole_number company indicator item check) (percent_decode escaped)

-- a Digital Link of a GTIN with a serial number, which is one part of the path: nothing follows it
pub record SgtinLink (text key : List ℕ) : Type 0 where
  pub gtin : List ℕ
  pub escaped : List ℕ
  pub is : text ≡ sgtin_link gtin escaped
  pub checked : IsChecked 14 gtin
  pub part : IsTrue (list_all is_part_byte escaped)
  pub serial : IsSerial (percent_decode escaped)
  pub names : key ≡ sgtin_key gtin (percent_decode escaped)

-- an EPC URI of an SSCC
pub record SsccUri (text key : List ℕ) : Type 0 where
  pub company : List ℕ
  pub extension : ℕ
  pub reference : List ℕ
  pub check : ℕ
  pub is : text ≡ sscc_uri company extension reference
  pub least : 6 ≤ length company
  pub most : length company ≤ 12
  pub sscc : IsChecked 18 (whole_number company extension reference check)
  pub names : key ≡ sscc_key (whole_number company extension reference check)

-- a Digital Link of an SSCC
pub record SsccLink (text key : List ℕ) : Type 0 where
  pub sscc : List ℕ
  pub is : text ≡ sscc_link sscc
  pub checked : IsChecked 18 sscc
  pub names : key ≡ sscc_key sscc

-- the text spells a GS1 item, in one of these four ways
abbrev pub SpellsNumber : List ℕ → List ℕ → Type 0
SpellsNumber text key = (SgtinUri text key ⊎ SgtinLink text key) ⊎ (SsccUri text key ⊎ SsccLink text key)

-- any other plain text is an opaque item, equal to itself byte for byte
pub record Opaque (text key : List ℕ) : Type 0 where
  pub other : (k : List ℕ) → ¬ SpellsNumber text k
  pub names : key ≡ uri_key text

-- a plain text spells the item of this key
pub record Spells (text key : List ℕ) : Type 0 where
  pub plain : IsPlain text
  pub item : SpellsNumber text key ⊎ Opaque text key

-- some text spells the item of this key
abbrev pub IsKey : List ℕ → Type 0
IsKey key = (text : List ℕ) × Spells text key
