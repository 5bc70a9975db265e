use Rattle.std.proofs.Common.{◌≡◌, Some, List, ◌++◌}
use Rattle.serde_json.specs.View.{members_view}
use Rattle.serde_json.proofs.Views.{Entry}
use Rattle.document_convert.specs.Weights.{room_behind, weight_beside}
use Rattle.document_convert.proofs.weights.room_beside.Given as goal

abbrev pub invariant-loop-name : goal.invariant-loop-name
invariant-loop-name l =
    (done : List Entry) × (l.members.entries ≡ done ++ l.name-iterator) × (room_behind l.room (weight_beside l.one l.other (members_view done)) ≡ Some l.left)
