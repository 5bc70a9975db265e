use Rattle.std.proofs.Common.{◌≡◌, map, ap, sym, ◌∙◌, subst}
use Rattle.std.specs.Prelude.{IfOk, option_map}
use Rattle.serde_json.specs.View.{view}
use Rattle.serde_json.proofs.Views.{view-Array}
use Rattle.document_convert.specs.Documents.{document_in, documents_in}
use Rattle.document_convert.proofs.Lists.{array_values}
use Rattle.document_convert.proofs.documents.documents_in.Goals as goal

pub returns-in-Array : goal.returns-in-Array
returns-in-Array c =
    let values = c.in-Array.values in
    let same : documents_in (view c.args.value) ≡ map document_in (map view values.items) =
    ap documents_in (ap view c.in-Array.is ∙ view-Array values) ∙ ap (map document_in) (array_values values.items) in
    subst (λ ds. IfOk c.documents_of.result (λ found. map (option_map view) found.items ≡ ds)) (sym same) c.documents_of.ensures
