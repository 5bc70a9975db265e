use Rattle.std.proofs.Common.{◌≡◌, ◌++◌, drop, map}
use Rattle.serde_json.specs.View.{items_view, view}
use Rattle.event_json.specs.Untraced.{in_order}
use Rattle.document_convert.specs.Respelled.{spelled_item}
use Rattle.document_convert.specs.Speller.{spelled_by}
use Rattle.document_convert.proofs.respelling.spelled_items.Given as goal

-- the items so far and the rest are all of them
abbrev pub invariant-loop-value : goal.invariant-loop-value
invariant-loop-value l =
    map view l.items.items ++ map (spelled_item (spelled_by l.fn.by)) (in_order (items_view (drop l.value-index l.list)))
    ≡ map (spelled_item (spelled_by l.fn.by)) (in_order (items_view l.list))
