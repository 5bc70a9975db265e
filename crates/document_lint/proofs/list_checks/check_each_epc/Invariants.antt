use Rattle.std.proofs.Common.{◌≡◌, ◌+◌, map, take, drop}
use Rattle.serde_json.specs.View.{items_view}
use Rattle.event_json.specs.ItemLists.{epc_of}
use Rattle.event_json.specs.Lent.{key_in}
use Rattle.event_json.specs.Members.{each}
use Rattle.event_json.proofs.Each.{after}
use Rattle.document_lint.proofs.list_checks.check_each_epc.Given as goal

-- what was found so far and is found of the rest is all of it
abbrev pub invariant-loop-value : goal.invariant-loop-value
invariant-loop-value l =
    after (map key_in (take l.value-index l.list)) (each (λ _. epc_of l.field) (l.value-index + 1) (items_view (drop l.value-index l.list)))
    ≡ each (λ _. epc_of l.field) 1 (items_view l.list)
