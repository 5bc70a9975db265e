use Rattle.std.proofs.Common.{◌≡◌, drop}
use Rattle.std.specs.List.{list_all}
use Rattle.serde_json.specs.View.{items_view}
use Rattle.event_json.specs.Untraced.{in_order}
use Rattle.document_convert.specs.LightParts.{is_light_event}
use Rattle.document_convert.proofs.light_parts.are_light.Given as goal

-- all are, where the rest are
abbrev pub invariant-loop-event : goal.invariant-loop-event
invariant-loop-event l =
    list_all is_light_event (in_order (items_view (drop l.event-index l.list))) ≡ list_all is_light_event (in_order (items_view l.list))
