use Rattle.std.proofs.Common.{◌≡◌, map}
use Rattle.serde_json.specs.View.{view}
use Rattle.document_convert.specs.Parted.{made_part, of_each}
use Rattle.document_convert.proofs.parted.made_in_step.Given as goal

-- the parts so far
abbrev pub invariant-loop-number : goal.invariant-loop-number
invariant-loop-number l = map view l.parts.items ≡ of_each (λ k. made_part (view l.event) k k) l.number
