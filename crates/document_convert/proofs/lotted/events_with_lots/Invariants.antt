use Rattle.std.proofs.Common.{◌≡◌, map, take}
use Rattle.std.specs.List.{flat_map}
use Rattle.serde_json.specs.View.{view}
use Rattle.document_convert.specs.Lotted.{events_with_lots}
use Rattle.document_convert.proofs.lotted.events_with_lots.Given as goal

-- those of the events so far
abbrev pub invariant-loop-value : goal.invariant-loop-value
invariant-loop-value l = map view l.events.items ≡ flat_map events_with_lots (map view (take l.value-index l.list))
