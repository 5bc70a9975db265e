use Rattle.std.proofs.Common.{◌+◌}
use Rattle.event_json.specs.ItemLists.{epc_of}
use Rattle.event_json.specs.Lent.{key_in}
use Rattle.event_json.proofs.Each.{lent_more}
use Rattle.document_lint.proofs.list_checks.check_each_epc.Goals as goal

pub loop-value-preserved : goal.loop-value-preserved
loop-value-preserved c =
    let i = c.loop-value.value-index in
    lent_more (λ _. epc_of c.args.field) key_in (i + 1) c.args.list.now i c.value-item.result _ c.loop-value-test.true
    (rw (← c.value-item.is) c.in_ok-check_epc.ensures) c.loop-value.invariant
