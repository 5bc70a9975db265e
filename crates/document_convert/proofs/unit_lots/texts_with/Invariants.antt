use Rattle.std.proofs.Common.{◌≡◌, ◌++◌, drop, map}
use Rattle.document_convert.specs.SeenLots.{seen_units}
use Rattle.document_convert.specs.UnitLots.{texts_with}
use Rattle.document_convert.proofs.unit_lots.texts_with.Given as goal

-- those so far and those of the rest are all
abbrev pub invariant-loop-unit : goal.invariant-loop-unit
invariant-loop-unit l =
    map (λ t. t.now) l.texts.items ++ texts_with (seen_units (drop l.unit-index l.units)) l.gtin ≡ texts_with (seen_units l.units) l.gtin
