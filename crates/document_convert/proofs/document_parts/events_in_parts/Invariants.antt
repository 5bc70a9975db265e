use Rattle.std.proofs.Common.{◌≡◌, map, take}
use Rattle.std.specs.List.{flat_map}
use Rattle.serde_json.specs.View.{view}
use Rattle.document_convert.specs.Parted.{event_parts}
use Rattle.document_convert.proofs.document_parts.events_in_parts.Given as goal

-- those of the events so far
abbrev pub invariant-loop-value : goal.invariant-loop-value
invariant-loop-value l = map view l.events.items ≡ flat_map event_parts (map view (take l.value-index l.list))
