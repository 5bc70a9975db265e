use Rattle.std.specs.Prelude.{ℕ, Bool, not, ◌&&◌, ◌==◌, nat_le, List, [], ◌∷◌, ◌++◌, length, codes, if◌then◌else◌, Option, Some, None, option_map, unwrap_or}
use Rattle.std.specs.List.{list_all}
use Rattle.std.specs.Option.{option_or, option_and_then}
use Rattle.epc_core.specs.Numbers.{are_parts, number_of, is_checked}
use Rattle.epc_core.specs.Serials.{serial_of, is_part_byte}

-- a byte that a plain text may have: no control byte, no space, no DEL
abbrev pub is_plain_byte : ℕ → Bool
is_plain_byte b = nat_le 33 b && not (b == 127)

-- whether a text is plain: 1 to 512 of these. `IsPlain` of Spellings.antt says the same as a fact.
unfoldable pub is_plain : List ℕ → Bool
is_plain text = nat_le 1 (length text) && (nat_le (length text) 512 && list_all is_plain_byte text)

-- ---- keys

-- a trade item by its GTIN-14 and its serial number
abbrev pub sgtin_key : List ℕ → List ℕ → List ℕ
sgtin_key gtin serial = codes "sgtin " ++ (gtin ++ (codes " " ++ serial))

-- a logistic unit by its SSCC-18
abbrev pub sscc_key : List ℕ → List ℕ
sscc_key digits = codes "sscc " ++ digits

-- any other item by its text
abbrev pub uri_key : List ℕ → List ℕ
uri_key text = codes "uri " ++ text

-- ---- the key of a text, computed. `Spells` of Spellings.antt says without steps what it is.

-- what is behind the front, where the text begins with it
abbrev pub behind : List ℕ → List ℕ → Option (List ℕ)
behind [] text = Some text
behind (p ∷ ps) [] = None
behind (p ∷ ps) (b ∷ bs) = if b == p then behind ps bs else None

-- the two parts, the byte before the first
abbrev pub with_first : ℕ → List ℕ × List ℕ → List ℕ × List ℕ
with_first b parts = (b ∷ parts.0, parts.1)

-- what is before the first such byte, and what is behind it
abbrev pub parted : ℕ → List ℕ → Option (List ℕ × List ℕ)
parted byte [] = None
parted byte (b ∷ bs) = if b == byte then Some ([], bs) else option_map (with_first b) (parted byte bs)

-- the digits of a company prefix and a reference, `count` together, as one number
abbrev pub number_at : ℕ → List ℕ → List ℕ → Option (List ℕ)
number_at count company reference = if are_parts count company reference then Some (number_of company reference) else None

-- the GTIN-14 and the escaped serial number in an EPC URI
abbrev pub gtin_of_uri : List ℕ → Option (List ℕ × List ℕ)
gtin_of_uri text =
    option_and_then (λ rest.
    option_and_then (λ first.
    option_and_then (λ second.
    option_map (λ gtin. (gtin, second.1)) (number_at 13 first.0 second.0))
    (parted 46 first.1))
    (parted 46 rest))
    (behind (codes "urn:epc:id:sgtin:") text)

-- the same in a Digital Link
abbrev pub gtin_of_link : List ℕ → Option (List ℕ × List ℕ)
gtin_of_link text =
    option_and_then (λ rest.
    option_and_then (λ first.
    option_and_then (λ escaped.
    if is_checked 14 first.0 && list_all is_part_byte escaped then Some (first.0, escaped) else None)
    (behind (codes "21/") first.1))
    (parted 47 rest))
    (behind (codes "https://id.gs1.org/01/") text)

-- the SSCC-18 in an EPC URI
abbrev pub sscc_of_uri : List ℕ → Option (List ℕ)
sscc_of_uri text =
    option_and_then (λ rest.
    option_and_then (λ first. number_at 17 first.0 first.1)
    (parted 46 rest))
    (behind (codes "urn:epc:id:sscc:") text)

-- the same in a Digital Link
abbrev pub sscc_of_link : List ℕ → Option (List ℕ)
sscc_of_link text =
    option_and_then (λ digits. if is_checked 18 digits then Some digits else None)
    (behind (codes "https://id.gs1.org/00/") text)

-- the key of a text that spells a GTIN and a serial number, or an SSCC
abbrev pub sgtin_key_of : List ℕ → Option (List ℕ)
sgtin_key_of text =
    option_and_then (λ parts. option_map (sgtin_key parts.0) (serial_of parts.1)) (option_or (gtin_of_uri text) (gtin_of_link text))

abbrev pub sscc_key_of : List ℕ → Option (List ℕ)
sscc_key_of text = option_map sscc_key (option_or (sscc_of_uri text) (sscc_of_link text))

abbrev pub number_key_of : List ℕ → Option (List ℕ)
number_key_of text = option_or (sgtin_key_of text) (sscc_key_of text)

-- the key of the item that a plain text names
unfoldable pub key_of : List ℕ → List ℕ
key_of text = unwrap_or (number_key_of text) (uri_key text)
