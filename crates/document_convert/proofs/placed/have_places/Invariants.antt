use Rattle.std.proofs.Common.{◌≡◌, drop}
use Rattle.std.specs.List.{list_any}
use Rattle.serde_json.specs.View.{items_view}
use Rattle.event_json.specs.Untraced.{in_order}
use Rattle.document_convert.specs.Placed.{has_places}
use Rattle.document_convert.proofs.placed.have_places.Given as goal

-- one has some, where one of the rest has
abbrev pub invariant-loop-event : goal.invariant-loop-event
invariant-loop-event l = list_any (has_places l.sites) (in_order (items_view (drop l.event-index l.list))) ≡ list_any (has_places l.sites) (in_order (items_view l.list))
