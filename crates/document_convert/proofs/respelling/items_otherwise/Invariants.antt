use Rattle.std.proofs.Common.{◌≡◌, drop}
use Rattle.std.specs.List.{list_any}
use Rattle.serde_json.specs.View.{items_view}
use Rattle.event_json.specs.Untraced.{in_order}
use Rattle.document_convert.specs.Respelled.{item_otherwise}
use Rattle.document_convert.specs.Speller.{spelled_by}
use Rattle.document_convert.proofs.respelling.items_otherwise.Given as goal

-- one is so, where one of the rest is
abbrev pub invariant-loop-value : goal.invariant-loop-value
invariant-loop-value l =
    list_any (item_otherwise (spelled_by l.fn.by)) (in_order (items_view (drop l.value-index l.list)))
    ≡ list_any (item_otherwise (spelled_by l.fn.by)) (in_order (items_view l.list))
