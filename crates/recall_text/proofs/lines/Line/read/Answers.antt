use Rattle.std.proofs.Common.{◌≡◌, sym, ap, ◌∙◌, subst}
use Rattle.recall_text.specs.Requests.{Asks}
use Rattle.recall_text.specs.Steps.{request, found, first_field}
use Rattle.recall_text.proofs.FormLemmas.{reading_of, asks_found}
use Rattle.recall_text.proofs.lines.Line.read.Goals as goal

pub returns : goal.returns
returns c =
    let line = c.args.line.now in
    let text = c.in-Some.text.now in
    let (is_text, same_text) = c.in-Some.ensures in
    let same : request c.of_fields.result ≡ reading_of line =
    c.of_fields.ensures ∙ ap (λ w. found w c.split_field.result.1.now) c.split_field.ensures.field ∙ ap (found (first_field text)) c.split_field.ensures.rest ∙ ap reading_of same_text in
    subst (Asks line) (sym same) (asks_found line (sym c.is_comment.ensures ∙ c.if-is_comment.false) is_text)
