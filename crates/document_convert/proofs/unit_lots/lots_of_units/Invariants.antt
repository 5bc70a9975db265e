use Rattle.std.proofs.Common.{◌≡◌, map, take}
use Rattle.std.specs.List.{flat_map}
use Rattle.document_convert.specs.SeenLots.{seen_lots, seen_units}
use Rattle.document_convert.specs.UnitLots.{lots_numbered}
use Rattle.document_convert.proofs.unit_lots.lots_of_units.Given as goal

-- those so far
abbrev pub invariant-loop-number : goal.invariant-loop-number
invariant-loop-number l =
    seen_lots l.lots.items ≡ flat_map (lots_numbered (seen_units l.units)) (map (λ t. t.now) (take l.number-index l.numbers))
