use Rattle.std.proofs.Common.{◌≡◌, codes, map}
use Rattle.serde_json.specs.View.{view}
use Rattle.document_convert.specs.Documents.{body_of}
use Rattle.document_convert.specs.Parted.{of_each, thousand}
use Rattle.document_convert.specs.Types.{with_member}
use Rattle.document_convert.proofs.document_parts.documents_of.Given as goal

-- the documents so far
abbrev pub invariant-loop-number : goal.invariant-loop-number
invariant-loop-number l =
    map view l.found.items ≡ of_each (λ k. with_member (codes "epcisBody") (body_of (thousand k (map view l.events))) (view l.beside)) l.number
