use Rattle.std.proofs.Common.{◌≡◌, Some, List, ◌++◌, take}
use Rattle.serde_json.specs.View.{items_view, members_view}
use Rattle.serde_json.proofs.Views.{Entry}
use Rattle.document_convert.specs.Weights.{items_weight, members_weight, room_behind}
use Rattle.document_convert.proofs.weights.+weigh.Given as goal

abbrev pub invariant-room_behind_items-loop-item : goal.invariant-room_behind_items-loop-item
invariant-room_behind_items-loop-item l = room_behind l.room (items_weight (items_view (take l.item-index l.item-items))) ≡ Some l.left

abbrev pub invariant-room_behind_members-loop-name : goal.invariant-room_behind_members-loop-name
invariant-room_behind_members-loop-name l =
    (done : List Entry) × (l.members.entries ≡ done ++ l.name-iterator) × (room_behind l.room (members_weight (members_view done)) ≡ Some l.left)
