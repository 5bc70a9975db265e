use Rattle.std.proofs.Common.{◌≡◌, ◌++◌, map, drop}
use Rattle.event_json.specs.Lent.{key_in}
use Rattle.event_json.proofs.item_lists.each_epc.Given as goal

abbrev pub invariant-loop-value : goal.invariant-loop-value
invariant-loop-value l = l.items.items ++ map key_in (drop l.value-index l.list) ≡ map key_in l.list
