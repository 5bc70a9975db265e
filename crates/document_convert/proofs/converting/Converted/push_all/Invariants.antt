use Rattle.std.proofs.Common.{◌≡◌, ◌+◌, ◌++◌, List, length, map}
use Rattle.std.specs.List.{enumerate_from}
use Rattle.std.specs.Prelude.{option_map}
use Rattle.std.specs.Vec.Iter.{into_iter_items}
use Rattle.serde_json.specs.View.{view}
use Rattle.document_convert.specs.Converted.{AreConverted}
use Rattle.document_convert.specs.Texts.{Piece, piece_of}
use Rattle.document_convert.proofs.converting.Converted.push_all.Given as goal

-- the documents so far are added
abbrev pub invariant-loop-document : goal.invariant-loop-document
invariant-loop-document l =
    (l.fn.documents.items ≡ l.yielded ++ into_iter_items l.document-iterator)
    × (l.number ≡ l.fn.first + length l.yielded)
    × ((pieces : List Piece) → AreConverted l.fn.ways l.sites pieces l.initial.self
    → AreConverted l.fn.ways l.sites (pieces ++ map (piece_of l.fn.line) (enumerate_from l.fn.first (map (option_map view) l.yielded))) l.self)
