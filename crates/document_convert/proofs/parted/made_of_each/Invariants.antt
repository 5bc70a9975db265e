use Rattle.std.proofs.Common.{◌≡◌, codes, map}
use Rattle.std.specs.List.{flat_map}
use Rattle.serde_json.specs.View.{view}
use Rattle.document_convert.specs.Parted.{count_at, made_part, numbers, of_each}
use Rattle.document_convert.proofs.parted.made_of_each.Given as goal

-- the parts so far
abbrev pub invariant-loop-input : goal.invariant-loop-input
invariant-loop-input l =
    map view l.parts.items ≡ flat_map (λ i. of_each (made_part (view l.event) i) (count_at (codes "outputEPCList") (view l.event))) (numbers 0 l.input)
