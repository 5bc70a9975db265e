use Rattle.std.proofs.Common.{◌≡◌, ℕ, List, drop, map}
use Rattle.document_convert.specs.SeenLots.{seen_units}
use Rattle.document_convert.specs.UnitLots.{distinct_from, gtins_of}
use Rattle.document_convert.proofs.unit_lots.gtins_of.Given as goal

-- those so far, and those that the rest adds, are all
abbrev pub invariant-loop-unit : goal.invariant-loop-unit
invariant-loop-unit l =
    distinct_from (map (λ t. t.now) l.gtins.items) (map (λ (unit : List ℕ × List ℕ). unit.0) (seen_units (drop l.unit-index l.units))) ≡ gtins_of (seen_units l.units)
