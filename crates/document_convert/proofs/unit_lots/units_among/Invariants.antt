use Rattle.std.proofs.Common.{◌≡◌, ◌++◌, drop, map}
use Rattle.std.specs.List.{filter_map}
use Rattle.document_convert.specs.SeenLots.{seen_units}
use Rattle.document_convert.specs.UnitLots.{unit_in}
use Rattle.document_convert.proofs.unit_lots.units_among.Given as goal

-- those so far and those of the rest are all
abbrev pub invariant-loop-text : goal.invariant-loop-text
invariant-loop-text l =
    seen_units l.units.items ++ filter_map unit_in (map (λ t. t.now) (drop l.text-index l.texts)) ≡ filter_map unit_in (map (λ t. t.now) l.texts)
