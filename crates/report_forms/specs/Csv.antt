-- A report and a trace as rows of comma-separated fields, as RFC 4180 has them.
use Rattle.std.specs.Prelude.{if◌then◌else◌, ℕ, Bool, false, ◌==◌, ◌&&◌, List, [], ◌∷◌, ◌++◌, Option, Some, None, codes, map}
use Rattle.std.specs.List.{flat_map, list_any}
use Rattle.std.specs.Option.{option_and_then, option_map_or, option_or, unwrap_or}
use Rattle.csv.specs.Writing.{default_writer, field_text}
use Rattle.epc_core.specs.Items.{behind, parted}
use Rattle.event_json.specs.Sites.{Site}
use Rattle.item_spellings.specs.LotParts.{lot_number, lot_parts_of}
use Rattle.recall_text.specs.Words.{name_at, recall_text}
use Rattle.trace_core.specs.declared.pairs.Pair.{Pair}
use Rattle.report_forms.specs.Accounts.{Account, OutsidePart, Part, way_beside}
use Rattle.report_forms.specs.Evidence.{if_told, origin_evidence, outside_evidence, part_evidence}
use Rattle.report_forms.specs.declared.accounts.Title.{Title}
use Rattle.report_forms.specs.declared.accounts.Title.TheVariants as titles

-- ---- the numbers of an item, by its key

-- the GTIN and the serial number of a trade item
abbrev pub trade_numbers : List ℕ → Option (List ℕ × List ℕ)
trade_numbers key = option_and_then (parted 32) (behind (codes "sgtin ") key)

-- the GTIN of a trade item or of a lot
abbrev pub gtin_of : List ℕ → List ℕ
gtin_of key = option_map_or (λ numbers. numbers.0) (option_or (trade_numbers key) (lot_parts_of key)) []

abbrev pub serial_of : List ℕ → List ℕ
serial_of key = option_map_or (λ numbers. numbers.1) (trade_numbers key) []

-- the SSCC of a logistic unit
abbrev pub sscc_of : List ℕ → List ℕ
sscc_of key = unwrap_or (behind (codes "sscc ") key) []

-- the number of a lot
abbrev pub lot_of : List ℕ → List ℕ
lot_of key = option_map_or (λ parts. lot_number parts.1) (lot_parts_of key) []

-- ---- rows

-- a row is its fields
abbrev pub Fields : Type 0
Fields = List (List ℕ)

-- the names of the columns
abbrev pub columns : List ℕ → List ℕ → Bool → Fields
columns beside_site beside_item told =
    codes "recall" ∷ codes "site" ∷ codes "item" ∷ codes "gtin" ∷ codes "serial" ∷ codes "sscc" ∷ beside_site ∷ beside_item ∷ codes "kind" ∷ codes "destination"
    ∷ (if_told told (codes "event_id" ∷ codes "event_time" ∷ codes "carrier" ∷ []) ++ codes "lot" ∷ [])

abbrev pub name_beside : List Site → Option Pair → List ℕ
name_beside sites None = []
name_beside sites (Some p) = name_at sites p.site

abbrev pub item_beside : Option Pair → List ℕ
item_beside None = []
item_beside (Some p) = p.item

-- an item at a site, the pair beside it, where it went, what the event behind that is, and the number of a lot
abbrev pub row_of : List Site → List ℕ → ℕ → List ℕ → Option Pair → List ℕ → List ℕ → Fields → Fields
row_of sites recall site item beside kind destination evidence =
    recall ∷ name_at sites site ∷ item ∷ gtin_of item ∷ serial_of item ∷ sscc_of item ∷ name_beside sites beside ∷ item_beside beside ∷ kind ∷ destination
    ∷ (evidence ++ lot_of item ∷ [])

-- a pair, the pair beside it on its trail, and, where the events are told, that of the step between them
abbrev pub part_row : List Site → List ℕ → List ℕ → Bool → Part → Fields
part_row sites recall kind told part = row_of sites recall part.pair.site part.pair.item (way_beside part.way) kind [] (part_evidence told part)

-- a shipment to a place that is no traced site, and, where the events are told, its event
abbrev pub outside_row : List Site → List ℕ → Bool → OutsidePart → Fields
outside_row sites recall told x =
    row_of sites recall x.shipment.site x.shipment.item None (codes "outside") x.shipment.destination (outside_evidence told x)

-- a pair that no pair is related to
abbrev pub origin_row : List Site → List ℕ → Bool → Pair → Fields
origin_row sites recall told p = row_of sites recall p.site p.item None (codes "origin") [] (origin_evidence told)

-- the columns; those of the pair beside it are named by its place on the trail
abbrev pub columns_of : Title → Bool → Fields
columns_of (titles.Recall r ended) told = columns (codes "from_site") (codes "from_item") told
columns_of titles.Forward told = columns (codes "from_site") (codes "from_item") told
columns_of titles.Back told = columns (codes "to_site") (codes "to_item") told

-- the recall of a report
abbrev pub recall_field : List Site → Title → List ℕ
recall_field sites (titles.Recall r ended) = recall_text sites r
recall_field sites other = []

-- what its pairs are
abbrev pub kind_of : Title → List ℕ
kind_of (titles.Recall r ended) = codes "held"
kind_of other = codes "found"

-- Behind the columns' names each pair has a row, in order, and then each shipment that left, and each origin.
abbrev pub account_rows : List Site → Account → List Fields
account_rows sites a =
    columns_of a.title a.told
    ∷ map (part_row sites (recall_field sites a.title) (kind_of a.title) a.told) a.parts
    ++ (map (outside_row sites (recall_field sites a.title) a.told) a.outside ++ map (origin_row sites (recall_field sites a.title) a.told) a.origins)

-- ---- texts that a spreadsheet might take for a formula

-- what a formula begins with: `=`, `+`, `-`, `@`, a tab or a CR
abbrev pub formula_marks : List ℕ
formula_marks = codes "=+-@" ++ 9 ∷ 13 ∷ []

-- it begins with one of them
abbrev pub is_formula : List ℕ → Bool
is_formula [] = false
is_formula (b ∷ bs) = list_any (λ mark. b == mark) formula_marks

-- such a text stands behind an apostrophe, and any other as it is
abbrev pub guarded : List ℕ → List ℕ
guarded text = if is_formula text then 39 ∷ text else text

-- the rows as they are, or with each field guarded
abbrev pub table_rows : Bool → List Fields → List Fields
table_rows guard rows = if guard then map (map guarded) rows else rows

-- ---- as text

-- a field, in quotes where it has to be, as the crate `csv` writes it
unfoldable pub csv_field : List ℕ → List ℕ
csv_field field = field_text default_writer field

-- the fields behind one, each behind a comma; CR LF ends the line
abbrev pub csv_rest : Fields → List ℕ
csv_rest [] = 13 ∷ 10 ∷ []
csv_rest (field ∷ fields) = 44 ∷ (csv_field field ++ csv_rest fields)

-- a line of fields
unfoldable pub csv_line : Fields → List ℕ
csv_line [] = 13 ∷ 10 ∷ []
csv_line (field ∷ fields) = csv_field field ++ csv_rest fields

abbrev pub csv_lines : List Fields → List ℕ
csv_lines rows = flat_map csv_line rows

-- a field as it is written: guarded, where it is asked for
abbrev pub cell : Bool → List ℕ → List ℕ
cell guard field = if is_formula field && guard then 39 ∷ field else field

abbrev pub cells : Bool → Fields → Fields
cells guard row = map (cell guard) row

-- a line of fields that are guarded, where it is asked for
unfoldable pub cell_line : Bool → Fields → List ℕ
cell_line guard row = csv_line (cells guard row)

abbrev pub cell_lines : Bool → List Fields → List ℕ
cell_lines guard rows = flat_map (cell_line guard) rows
