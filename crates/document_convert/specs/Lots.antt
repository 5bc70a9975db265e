-- Which lot a text spells: a GTIN with a batch or lot number (GS1 General Specifications, application identifiers 01 and 10).
use Rattle.std.specs.Prelude.{is_none, ◌≡◌, ℕ, ◌==◌, if◌then◌else◌, List, [], ◌++◌, length, take, drop, codes, Option, Some, None, option_and_then, option_map, unwrap_or, Result, Ok, Err}
use Rattle.std.specs.Option.{option_or}
use Rattle.epc_core.specs.Items.{behind, parted, sgtin_key}
use Rattle.epc_core.specs.Numbers.{IsChecked}
use Rattle.epc_core.specs.Reading.{reading}
use Rattle.epc_core.specs.Serials.{IsSerial}
use Rattle.epc_core.specs.Spellings.{Spells, sgtin_link}
use Rattle.item_spellings.specs.Lots.{escape, lot_text}

-- A lot number has the characters of a serial number, and an LGTIN is written as an SGTIN, so a text that names a lot names the unit
-- that has the lot number for its serial number, once the one word for lots is replaced.

-- `urn:epc:class:lgtin:CompanyPrefix.ItemReference.Lot` (EPC Tag Data Standard, section 6.4)
abbrev pub unit_of_uri : List ℕ → Option (List ℕ)
unit_of_uri text = option_map (λ rest. codes "urn:epc:id:sgtin:" ++ rest) (behind (codes "urn:epc:class:lgtin:") text)

-- the scheme of a link
abbrev pub behind_scheme : List ℕ → Option (List ℕ)
behind_scheme text = option_or (behind (codes "https://") text) (behind (codes "http://") text)

-- what stands before the first such byte
abbrev pub before : ℕ → List ℕ → List ℕ
before byte text = unwrap_or (option_map (λ parts. parts.0) (parted byte text)) text

-- without a query and a fragment
abbrev pub before_query : List ℕ → List ℕ
before_query text = before 63 (before 35 text)

-- what stands before so many digits of a GTIN-8, -12, -13 or -14, so that there are 14
abbrev pub zeros : ℕ → Option (List ℕ)
zeros count =
    if count == 14 then Some [] else
    if count == 13 then Some (codes "0") else
    if count == 12 then Some (codes "00") else
    if count == 8 then Some (codes "000000") else None

-- behind an application identifier and a slash, or behind its name
abbrev pub behind_key : List ℕ → List ℕ → List ℕ → Option (List ℕ)
behind_key number_key name_key path = option_or (behind number_key path) (behind name_key path)

-- behind a consumer product variant (application identifier 22), where there is one
abbrev pub past_variant : List ℕ → List ℕ
past_variant path = unwrap_or (option_map (λ parts. parts.1) (option_and_then (parted 47) (behind_key (codes "22/") (codes "cpv/") path))) path

-- a path that begins with the digits of a GTIN, and then has a lot
abbrev pub path_parts : List ℕ → Option (List ℕ × List ℕ)
path_parts path =
    option_and_then (λ rest.
    option_and_then (λ parts.
    option_map (λ lot. (parts.0, before_query lot)) (behind_key (codes "10/") (codes "lot/") (past_variant parts.1)))
    (parted 47 rest))
    (behind_key (codes "01/") (codes "gtin/") path)

-- a Digital Link of a lot, on any host (GS1 Digital Link standard, URI syntax)
abbrev pub link_parts : List ℕ → Option (List ℕ × List ℕ)
link_parts text = option_and_then (λ parts. path_parts parts.1) (option_and_then (parted 47) (behind_scheme text))

abbrev pub unit_of_parts : List ℕ × List ℕ → Option (List ℕ)
unit_of_parts parts = option_map (λ front. sgtin_link (front ++ parts.0) parts.1) (zeros (length parts.0))

abbrev pub unit_of_link : List ℕ → Option (List ℕ)
unit_of_link text = option_and_then unit_of_parts (link_parts text)

-- `(01)GTIN-14(10)Lot`, an element string in brackets with nothing behind the lot (GS1 General Specifications, section 7.8)
abbrev pub element_parts : List ℕ → Option (List ℕ × List ℕ)
element_parts text =
    option_and_then (λ rest.
    option_and_then (λ parts.
    option_and_then (λ lot. if is_none (parted 40 lot) then Some (parts.0, lot) else None) (behind (codes "10)") parts.1))
    (parted 40 rest))
    (behind (codes "(01)") text)

abbrev pub unit_of_element : List ℕ → Option (List ℕ)
unit_of_element text = option_map (λ parts. sgtin_link parts.0 (escape parts.1)) (element_parts text)

unfoldable pub unit_of : List ℕ → Option (List ℕ)
unit_of text = option_or (unit_of_uri text) (option_or (unit_of_link text) (unit_of_element text))

-- a text spells the lot of this GTIN-14, whose check digit is right, and this number, 1 to 20 of the 82 characters
pub record SpellsLot (text gtin number : List ℕ) : Type 0 where
  pub checked : IsChecked 14 gtin
  pub allowed : IsSerial number
  pub unit : List ℕ
  pub named : unit_of text ≡ Some unit
  pub spells : Spells unit (sgtin_key gtin number)

-- the one spelling of the lot of the unit with this key
abbrev pub lot_of_key : List ℕ → Option (List ℕ)
lot_of_key key = option_map (λ rest. lot_text (take 14 rest) (drop 15 rest)) (behind (codes "sgtin ") key)

-- of the unit that is read of a text
abbrev pub lot_read : {E : Type 0} → Result (List ℕ) E → Option (List ℕ)
lot_read (Ok key) = lot_of_key key
lot_read (Err e) = None

-- the one spelling of the lot that a text spells
unfoldable pub lot_of : List ℕ → Option (List ℕ)
lot_of text = option_and_then (λ unit. lot_read (reading unit)) (unit_of text)
