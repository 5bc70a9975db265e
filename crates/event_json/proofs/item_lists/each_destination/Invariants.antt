use Rattle.std.proofs.Common.{◌≡◌, ◌++◌, map, drop}
use Rattle.event_json.specs.Lent.{destination_in}
use Rattle.event_json.proofs.item_lists.each_destination.Given as goal

abbrev pub invariant-loop-value : goal.invariant-loop-value
invariant-loop-value l = l.texts.items ++ map destination_in (drop l.value-index l.list) ≡ map destination_in l.list
