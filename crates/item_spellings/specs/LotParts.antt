-- The parts of a lot's key: its GTIN and its batch or lot number (GS1 General Specifications, application identifiers 01 and 10).
use Rattle.std.specs.Prelude.{◌≡◌, ◌≢◌, ℕ, Bool, not, ◌&&◌, ◌==◌, nat_le, IsTrue, List, [], ◌++◌, length, codes, if◌then◌else◌, Option, Some, None, option_map}
use Rattle.std.specs.List.{list_all}
use Rattle.std.specs.Option.{option_and_then}
use Rattle.percent_encoding.specs.Percent.{percent_decode}
use Rattle.epc_core.specs.Items.{behind, parted, uri_key}
use Rattle.epc_core.specs.Numbers.{is_digit}
use Rattle.epc_core.specs.Serials.{is_part_byte}

-- the key of the lot with this GTIN-14, whatever its check digit, and this lot number, as a link spells it (GS1 Digital Link standard, URI syntax)
pub record IsLotOf (key gtin number : List ℕ) : Type 0 where
  pub spelled : key ≡ uri_key (codes "https://id.gs1.org/01/" ++ (gtin ++ (codes "/10/" ++ number)))
  pub long : length gtin ≡ 14
  pub digits : IsTrue (list_all is_digit gtin)
  pub some : number ≢ []
  pub plain : IsTrue (list_all is_part_byte number)

-- the key of a lot
abbrev pub IsLot : List ℕ → Type 0
IsLot key = (gtin : List ℕ) × (number : List ℕ) × IsLotOf key gtin number

-- ---- computed

-- what stands for a GTIN and for a lot number in a link
abbrev pub link_parts : List ℕ → Option (List ℕ × List ℕ)
link_parts text =
    option_and_then (λ rest. option_and_then (λ parts. option_map (λ number. (parts.0, number)) (behind (codes "10/") parts.1)) (parted 47 rest))
    (behind (codes "https://id.gs1.org/01/") text)

-- whether these are 14 digits, and what may be a lot number in a link
abbrev pub are_lot_parts : List ℕ → List ℕ → Bool
are_lot_parts gtin number = ((length gtin == 14) && list_all is_digit gtin) && (not (length number == 0) && list_all is_part_byte number)

-- the GTIN and the number, where they are those of a lot
abbrev pub if_lot_parts : List ℕ × List ℕ → Option (List ℕ × List ℕ)
if_lot_parts parts = if are_lot_parts parts.0 parts.1 then Some parts else None

-- those in the link of a lot
abbrev pub lot_of_link : List ℕ → Option (List ℕ × List ℕ)
lot_of_link text = option_and_then if_lot_parts (link_parts text)

-- those of the lot with this key
unfoldable pub lot_parts_of : List ℕ → Option (List ℕ × List ℕ)
lot_parts_of key = option_and_then lot_of_link (behind (codes "uri ") key)

-- ---- the number itself

-- a printable character of ASCII
abbrev pub is_printable : ℕ → Bool
is_printable b = nat_le 32 b && nat_le b 126

-- the lot number that is spelled so: its escapes are decoded, where that gives printable characters of ASCII alone
unfoldable pub lot_number : List ℕ → List ℕ
lot_number spelled = if list_all is_printable (percent_decode spelled) then percent_decode spelled else spelled
