use Rattle.std.proofs.Common.{arith}
use Rattle.report_core.proofs.ItemsOfSites.{item_added}
use Rattle.report_core.proofs.item_places.add_item.Goals as goal

pub returns-in_ok-insert-clause-exact : goal.returns-in_ok-insert-clause-exact
returns-in_ok-insert-clause-exact c =
    item_added c.args.sets.now.items c.args.pair.now c.number-place.result c.index_mut.result.now c.insert.new.self c.in_ok-copy.field-0 c.number-place.ensures.value
    (omega (arith, c.if-place-len.true, c.len.ensures, c.args.sets.now.ok.0)) c.index_mut.ensures.value c.in_ok-copy.ensures c.in_ok-insert.ensures.ok
