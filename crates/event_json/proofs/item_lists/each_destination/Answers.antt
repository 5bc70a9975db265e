use Rattle.event_json.proofs.item_lists.each_destination.Goals as goal

pub lent_destination-requires : goal.lent_destination-requires
lent_destination-requires c =
    rw (c.value-item.is) (c.requires c.loop-value.value-index c.value-item.result c.loop-value-test.true)
