use Rattle.std.proofs.Common.{◌≡◌, ◌++◌, map}
use Rattle.serde_json.specs.View.{view}
use Rattle.document_convert.specs.Parted.{made_part, of_each}
use Rattle.document_convert.proofs.parted.push_made.Given as goal

-- the parts so far
abbrev pub invariant-loop-output : goal.invariant-loop-output
invariant-loop-output l = map view l.parts.items ≡ map view l.fn.parts.items ++ of_each (made_part (view l.event) l.input) l.output
