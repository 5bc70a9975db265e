use Rattle.std.proofs.Common.{◌≡◌, map}
use Rattle.std.specs.Prelude.{option_map}
use Rattle.serde_json.specs.View.{view}
use Rattle.document_convert.specs.Documents.{document_in}
use Rattle.document_convert.proofs.documents.documents_of.Given as goal

-- the values so far have their documents
abbrev pub invariant-loop-value : goal.invariant-loop-value
invariant-loop-value l = map (option_map view) l.found.items ≡ map document_in (map view l.yielded)
