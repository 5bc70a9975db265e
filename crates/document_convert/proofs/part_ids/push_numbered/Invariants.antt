use Rattle.std.proofs.Common.{◌≡◌, ◌+◌, ◌++◌, length, map}
use Rattle.std.specs.List.{enumerate_from}
use Rattle.std.specs.Vec.Iter.{into_iter_items}
use Rattle.serde_json.specs.View.{view}
use Rattle.document_convert.specs.Parted.{event_id, with_part_id}
use Rattle.document_convert.proofs.part_ids.push_numbered.Given as goal

-- the parts so far are added
abbrev pub invariant-loop-part : goal.invariant-loop-part
invariant-loop-part l =
    (l.fn.parts.items ≡ l.yielded ++ into_iter_items l.part-iterator)
    × (l.number ≡ 1 + length l.yielded)
    × (map view l.events.items ≡ map view l.fn.events.items ++ map (with_part_id (event_id (view l.event))) (enumerate_from 1 (map view l.yielded)))
