use Rattle.std.proofs.Common.{◌≡◌, ◌++◌, drop, map}
use Rattle.std.specs.Prelude.{filter}
use Rattle.epc_core.specs.Serials.{is_serial}
use Rattle.document_convert.proofs.unit_lots.numbers_among.Given as goal

-- those so far and those of the rest are all
abbrev pub invariant-loop-text : goal.invariant-loop-text
invariant-loop-text l =
    map (λ t. t.now) l.numbers.items ++ filter is_serial (map (λ t. t.now) (drop l.text-index l.texts)) ≡ filter is_serial (map (λ t. t.now) l.texts)
