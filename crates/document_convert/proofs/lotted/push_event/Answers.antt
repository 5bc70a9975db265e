use Rattle.std.proofs.Common.{List, [], ◌∷◌, ◌++◌, map, ap, ◌∙◌, append_assoc}
use Rattle.std.proofs.lemmas.List.{map_push}
use Rattle.serde_json.specs.Data.{Data}
use Rattle.serde_json.specs.View.{view}
use Rattle.document_convert.specs.LotEvents.{lot_events}
use Rattle.document_convert.specs.Lotted.{converted_event}
use Rattle.document_convert.proofs.lotted.push_event.Goals as goal

pub returns : goal.returns
returns c =
    let d = view c.args.event.now in
    let before = c.args.events.now.items in
    c.in_ok-push_lot_events.ensures
    ∙ ap (λ (ds : List Data). ds ++ lot_events d)
    (ap (map view) c.in_ok-push.ensures.items ∙ map_push view before c.in_ok-converted.converted ∙ ap (λ v. map view before ++ v ∷ []) c.in_ok-converted.ensures)
    ∙ append_assoc (map view before) (converted_event d ∷ []) (lot_events d)
