use Rattle.std.proofs.Common.{◌≡◌, ◌++◌, map, take}
use Rattle.document_convert.specs.SeenLots.{seen_lots, seen_units}
use Rattle.document_convert.specs.UnitLots.{lot_with}
use Rattle.document_convert.proofs.unit_lots.push_numbered.Given as goal

-- those so far
abbrev pub invariant-loop-gtin : goal.invariant-loop-gtin
invariant-loop-gtin l =
    seen_lots l.lots.items ≡ seen_lots l.initial.lots.items ++ map (lot_with (seen_units l.units) l.number) (map (λ t. t.now) (take l.gtin-index l.gtins))
