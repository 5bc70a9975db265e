use Rattle.std.proofs.Common.{◌≡◌, ◌++◌, drop, map}
use Rattle.serde_json.specs.View.{items_view, view}
use Rattle.event_json.specs.Untraced.{in_order}
use Rattle.document_convert.specs.Placed.{with_places}
use Rattle.document_convert.proofs.placed.events_with_places.Given as goal

-- the events so far and the rest are all of them
abbrev pub invariant-loop-value : goal.invariant-loop-value
invariant-loop-value l =
    map view l.events.items ++ map (with_places l.sites) (in_order (items_view (drop l.value-index l.list))) ≡ map (with_places l.sites) (in_order (items_view l.list))
