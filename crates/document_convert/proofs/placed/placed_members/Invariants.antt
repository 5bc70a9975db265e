use Rattle.std.proofs.Common.{◌≡◌, ◌++◌, drop, map}
use Rattle.serde_json.specs.View.{items_view, view}
use Rattle.event_json.specs.Untraced.{in_order}
use Rattle.document_convert.specs.Placed.{placed_member}
use Rattle.document_convert.specs.Places.{place_of}
use Rattle.document_convert.proofs.placed.placed_members.Given as goal

-- the members so far and the rest are all of them
abbrev pub invariant-loop-value : goal.invariant-loop-value
invariant-loop-value l =
    map view l.members.items ++ map (placed_member (place_of l.sites)) (in_order (items_view (drop l.value-index l.list)))
    ≡ map (placed_member (place_of l.sites)) (in_order (items_view l.list))
