use Rattle.report_core.proofs.StepsWanted.{item_inserted, shipment_stays, shipment_wanted}
use Rattle.std.proofs.Common.{refl, true}
use Rattle.report_core.proofs.wanted_steps.add_shipped.Goals as goal

pub returns-clause-before : goal.returns-clause-before
returns-clause-before c =
    shipment_stays c.args.wanted.now (record { items = c.insert.new.self; ships = true }) c.args.item.now
    (item_inserted c.args.wanted.now.items c.insert.new.self c.args.item.now c.in_ok-copy.field-0 c.in_ok-copy.ensures c.in_ok-insert.ensures.updates) refl

pub returns-clause-new : goal.returns-clause-new
returns-clause-new c =
    shipment_wanted c.args.wanted.now (record { items = c.insert.new.self; ships = true }) c.args.item.now
    (item_inserted c.args.wanted.now.items c.insert.new.self c.args.item.now c.in_ok-copy.field-0 c.in_ok-copy.ensures c.in_ok-insert.ensures.updates) refl
