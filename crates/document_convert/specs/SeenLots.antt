-- What the program keeps of units and of lots, as the pairs that the definitions speak of.
use Rattle.std.specs.Prelude.{ℕ, List, map, string_bytes}
use Rattle.document_convert.specs.declared.unit_lots.Unit.{Unit}
use Rattle.document_convert.specs.declared.unit_lots.UnitLot.{UnitLot}

-- the GTIN and the text of each unit
abbrev pub seen_units : List Unit → List (List ℕ × List ℕ)
seen_units units = map (λ (u : Unit). (string_bytes u.gtin, u.text.now)) units

-- a lot, and the texts of its units
abbrev pub seen_lot : UnitLot → List ℕ × List (List ℕ)
seen_lot l = (string_bytes l.lot, map (λ t. t.now) l.units.items)

abbrev pub seen_lots : List UnitLot → List (List ℕ × List (List ℕ))
seen_lots lots = map seen_lot lots
