use Rattle.std.proofs.Common.{◌≡◌, [], drop, map}
use Rattle.document_convert.specs.UnitLots.{distinct_from}
use Rattle.document_convert.proofs.unit_lots.each_once.Given as goal

-- those so far, and those that the rest adds, are all
abbrev pub invariant-loop-text : goal.invariant-loop-text
invariant-loop-text l =
    distinct_from (map (λ t. t.now) l.lots.items) (map (λ t. t.now) (drop l.text-index l.texts)) ≡ distinct_from [] (map (λ t. t.now) l.texts)
