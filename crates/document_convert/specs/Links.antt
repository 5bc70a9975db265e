-- Units: a GTIN with a serial number, or an SSCC (GS1 General Specifications, application identifiers 01, 21 and 00), and the one link of each.
use Rattle.std.specs.Prelude.{ℕ, List, codes, if◌then◌else◌, is_none, Option, Some, None, option_and_then, option_map, unwrap_or, Result, Ok, Err}
use Rattle.std.specs.Option.{option_or}
use Rattle.epc_core.specs.Items.{behind, parted}
use Rattle.epc_core.specs.Reading.{reading}
use Rattle.epc_core.specs.Spellings.{sscc_link}
use Rattle.event_writing.specs.Texts.{item_text}
use Rattle.item_spellings.specs.Scans.{scan_reading}
use Rattle.document_convert.specs.Lots.{before_query, behind_key, behind_scheme, past_variant, unit_of_parts}

-- ---- the unit of a link

-- the path of a link on any host (GS1 Digital Link standard, URI syntax), without a query and a fragment
abbrev pub path_of : List ℕ → Option (List ℕ)
path_of text = option_map (λ parts. parts.1) (option_and_then (λ rest. parted 47 (before_query rest)) (behind_scheme text))

-- behind a batch or lot number (application identifier 10), where there is one
abbrev pub past_lot : List ℕ → List ℕ
past_lot path = unwrap_or (option_map (λ parts. parts.1) (option_and_then (parted 47) (behind_key (codes "10/") (codes "lot/") path))) path

-- a path of the digits of a GTIN, and then of a serial number
abbrev pub item_parts : List ℕ → Option (List ℕ × List ℕ)
item_parts path =
    option_and_then (λ rest.
    option_and_then (λ parts.
    option_map (λ serial. (parts.0, serial)) (behind_key (codes "21/") (codes "ser/") (past_lot (past_variant parts.1))))
    (parted 47 rest))
    (behind_key (codes "01/") (codes "gtin/") path)

-- the link on `id.gs1.org` of the trade item with this path
abbrev pub item_at : List ℕ → Option (List ℕ)
item_at path = option_and_then unit_of_parts (item_parts path)

-- and of the logistic unit
abbrev pub sscc_at : List ℕ → Option (List ℕ)
sscc_at path = option_map sscc_link (behind_key (codes "00/") (codes "sscc/") path)

abbrev pub unit_at : List ℕ → Option (List ℕ)
unit_at path = option_or (item_at path) (sscc_at path)

-- ---- the one link

-- of the unit with this key; any other item has none
abbrev pub link_of_key : List ℕ → Option (List ℕ)
link_of_key key = if is_none (behind (codes "uri ") key) then Some (item_text key) else None

-- of the unit that is read of a text
abbrev pub link_read : {E : Type 0} → Result (List ℕ) E → Option (List ℕ)
link_read (Ok key) = link_of_key key
link_read (Err e) = None

-- of the unit that a link names
abbrev pub link_of_link : List ℕ → Option (List ℕ)
link_of_link text = option_and_then (λ unit. link_read (reading unit)) (option_and_then unit_at (path_of text))

-- of the unit that an element string in brackets names (GS1 General Specifications, section 7.8)
abbrev pub link_of_elements : List ℕ → Option (List ℕ)
link_of_elements text = option_and_then (λ _. link_read (scan_reading text)) (behind (codes "(") text)

-- of the unit that a text spells
unfoldable pub link_of : List ℕ → Option (List ℕ)
link_of text = option_or (link_of_link text) (link_of_elements text)
