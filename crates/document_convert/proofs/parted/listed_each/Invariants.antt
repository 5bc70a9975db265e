use Rattle.std.proofs.Common.{◌≡◌, map}
use Rattle.serde_json.specs.View.{view}
use Rattle.document_convert.specs.Parted.{of_each, with_thousand}
use Rattle.document_convert.proofs.parted.listed_each.Given as goal

-- the parts so far
abbrev pub invariant-loop-number : goal.invariant-loop-number
invariant-loop-number l = map view l.parts.items ≡ of_each (λ k. with_thousand (view l.event) l.name k (view l.event)) l.number
