use Rattle.std.proofs.Common.{◌≡◌, ◌+◌, ℕ, List, [], ◌∷◌, ◌++◌, Option, map, length, sym, ap, subst, ◌∙◌, arith, append_assoc, length-append}
use Rattle.std.proofs.lemmas.List.{length-map, map_push}
use Rattle.std.specs.List.{enumerate_from}
use Rattle.std.specs.Prelude.{option_map}
use Rattle.std.specs.Vec.Iter.{into_iter_items}
use Rattle.serde_json.specs.Data.{Data}
use Rattle.serde_json.specs.View.{view}
use Rattle.serde_json.specs.declared.value.Value.{Value}
use Rattle.document_convert.specs.Converted.{AreConverted}
use Rattle.document_convert.specs.Texts.{Piece, piece_of}
use Rattle.document_convert.proofs.ConvertLemmas.{left_more, pieces_more}
use Rattle.document_convert.proofs.converting.Converted.push_all.Goals as goal

pub loop-document-preserved : goal.loop-document-preserved
loop-document-preserved c =
    let (left, count, so_far) = c.loop-document.invariant in
    let taken = c.loop-document.yielded in
    let document = c.in-Some.document in
    let seen : Option Value → Option Data = option_map view in
    let line = c.args.line in
    let first = c.args.first in
    let before : List Piece = map (piece_of line) (enumerate_from first (map seen taken)) in
    let long : length (map seen taken) ≡ length taken = length-map taken seen in
    let number : c.loop-document.number ≡ first + length (map seen taken) = omega (arith, count, long) in
    let more = length-append taken (document ∷ []) in
    let one : before ++ piece_of line (c.loop-document.number, seen document) ∷ [] ≡ map (piece_of line) (enumerate_from first (map seen (taken ++ document ∷ []))) =
    ap (λ (n : ℕ). before ++ piece_of line (n, seen document) ∷ []) number
    ∙ sym (ap (λ xs. map (piece_of line) (enumerate_from first xs)) (map_push seen taken document) ∙ pieces_more line first (map seen taken) (seen document)) in (
      left_more c.args.documents.items taken (into_iter_items c.loop-document.document-iterator) _ document left c.in-Some.ensures.steps.0,
      omega (arith, count, more),
      λ pieces are. subst (λ ps. AreConverted c.args.ways c.args.sites.now ps c.push.new.self) (append_assoc pieces before _ ∙ ap (λ ps. pieces ++ ps) one)
          (c.in_ok-push.ensures (pieces ++ before) (so_far pieces are)),
    )
