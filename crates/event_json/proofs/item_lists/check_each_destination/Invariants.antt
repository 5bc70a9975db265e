use Rattle.std.proofs.Common.{◌≡◌, ◌+◌, All, map, take, drop}
use Rattle.serde_json.specs.View.{items_view}
use Rattle.event_json.specs.ItemLists.{destination_of}
use Rattle.event_json.specs.Lent.{destination_in, IsDestination}
use Rattle.event_json.specs.Members.{each}
use Rattle.event_json.proofs.Each.{after}
use Rattle.event_json.proofs.item_lists.check_each_destination.Given as goal

abbrev pub invariant-loop-value : goal.invariant-loop-value
invariant-loop-value l = record {
  found : after (map destination_in (take l.value-index l.list))
      (each (λ _. destination_of) (l.value-index + 1) (items_view (drop l.value-index l.list)))
      ≡ each (λ _. destination_of) 1 (items_view l.list);
  plain : All IsDestination (take l.value-index l.list);
}
