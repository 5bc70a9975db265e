use Rattle.std.proofs.Common.{◌++◌, List, map, string_bytes, ap, sym, ◌∙◌}
use Rattle.serde_json.specs.Data.{Data, array, string}
use Rattle.serde_json.specs.View.{items_of, view}
use Rattle.serde_json.proofs.Views.{view-Array}
use Rattle.document_convert.proofs.Lists.{listed_back}
use Rattle.document_convert.proofs.quantities.and_texts.Goals as goal

pub returns : goal.returns
returns c =
    view-Array c.push_texts.new.list
    ∙ ap (λ (ds : List Data). array (items_of ds))
    (c.in_ok-push_texts.ensures ∙ ap (λ (ds : List Data). ds ++ map string (map string_bytes c.args.texts.items)) (sym (listed_back (map view c.args.list.items))))
