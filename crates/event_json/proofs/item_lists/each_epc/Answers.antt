use Rattle.event_json.proofs.item_lists.each_epc.Goals as goal

pub lent_epc-requires : goal.lent_epc-requires
lent_epc-requires c =
    rw (c.value-item.is) (c.requires c.loop-value.value-index c.value-item.result c.loop-value-test.true)
