-- A document with the lots of its events among their items.
use Rattle.std.specs.Prelude.{Bool, ◌||◌, if◌then◌else◌, List, ◌∷◌, codes, bytes_eq, Option, Some, None}
use Rattle.std.specs.List.{flat_map, list_any}
use Rattle.serde_json.specs.Data.{Data, object, Items, no_members}
use Rattle.event_json.specs.Checks.{type_text}
use Rattle.event_json.specs.Documents.{listed}
use Rattle.event_json.specs.Untraced.{in_order, is_text}
use Rattle.document_convert.specs.Documents.{document_around}
use Rattle.document_convert.specs.LotEvents.{has_unit_lots, lot_events, spellings, with_made}
use Rattle.document_convert.specs.Lots.{lot_of}
use Rattle.document_convert.specs.Quantities.{has_quantities, with_its_lots}
use Rattle.document_convert.specs.Respelled.{spells_otherwise_by, with_spelled}
use Rattle.document_convert.specs.UnitLots.{unit_lots}

-- an event with the lots of its quantities among its items, and all lots there by their one spelling
abbrev pub lotted : Data → Data
lotted d = with_spelled lot_of (with_its_lots d)

-- the same with the lots of its units among what it makes, where it is a transformation
unfoldable pub converted_event : Data → Data
converted_event d = with_made (spellings (unit_lots d)) (lotted d)

-- an event as it is written, and right behind it the events that lead from each lot of its units to these
abbrev pub events_with_lots : Data → List Data
events_with_lots d = converted_event d ∷ lot_events d

-- it has quantities, spells a lot otherwise, or tells the lot of units
abbrev pub has_lots : Data → Bool
has_lots d = has_quantities d || spells_otherwise_by lot_of d || has_unit_lots d

-- an event that is a document of its own: one that tells the lot of units becomes a document of several events
abbrev pub bare_with_lots : Data → Data
bare_with_lots d = if has_unit_lots d then document_around (object no_members) (events_with_lots d) else lotted d

-- a document of its events with their lots; one that has none of that stays as it is
unfoldable pub document_with_lots : Data → Data
document_with_lots d = if is_text (λ text. bytes_eq text (codes "EPCISDocument")) (type_text d) then of_list (listed d) else bare_with_lots d where
  of_list : Option Items → Data
  of_list None = d
  of_list (Some items) = if list_any has_lots (in_order items) then document_around d (flat_map events_with_lots (in_order items)) else d
