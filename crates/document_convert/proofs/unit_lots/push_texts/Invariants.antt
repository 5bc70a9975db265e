use Rattle.std.proofs.Common.{◌≡◌, ◌++◌, drop, map}
use Rattle.serde_json.specs.View.{items_view}
use Rattle.document_convert.specs.UnitLots.{texts_in}
use Rattle.document_convert.proofs.unit_lots.push_texts.Given as goal

-- those so far and those of the rest are all
abbrev pub invariant-loop-value : goal.invariant-loop-value
invariant-loop-value l =
    map (λ t. t.now) l.texts.items ++ texts_in (items_view (drop l.value-index l.list)) ≡ map (λ t. t.now) l.initial.texts.items ++ texts_in (items_view l.list)
