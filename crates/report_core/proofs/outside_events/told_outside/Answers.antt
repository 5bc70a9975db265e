use Rattle.std.proofs.Common.{◌+◌, subst, sym, take}
use Rattle.std.proofs.lemmas.List.{take_all}
use Rattle.trace_core.proofs.Zips.{zip_more}
use Rattle.report_core.specs.Leaving.{IsShippedOut, IsWantedItem}
use Rattle.report_core.specs.OutsideEvents.{AreToldOutside, TellsOutside}
use Rattle.report_core.specs.declared.outside.OutsideShipment.{OutsideShipment}
use Rattle.report_core.proofs.outside_events.told_outside.Goals as goal

pub push_outside-requires-clause-out : goal.push_outside-requires-clause-out
push_outside-requires-clause-out c = subst (IsShippedOut c.args.relating.now.sites) (sym c.shipment-item.is) (c.requires.out c.loop-shipment.shipment-index c.shipment-item.result c.loop-shipment-test.true)

pub push_outside-requires-clause-wanted : goal.push_outside-requires-clause-wanted
push_outside-requires-clause-wanted c =
    subst (λ (x : OutsideShipment). IsWantedItem c.args.relating.now.wanted x.item) (sym c.shipment-item.is) (c.requires.wanted c.loop-shipment.shipment-index c.shipment-item.result c.loop-shipment-test.true)

pub loop-shipment-preserved : goal.loop-shipment-preserved
loop-shipment-preserved c =
    let sites = c.args.relating.now.sites in
    let outside = c.args.outside.now in
    let place = c.loop-shipment.shipment-index in
    let (told, pushed, tells) = c.in_ok-push_outside.ensures in
    subst (AreToldOutside sites (take (place + 1) outside)) (sym pushed)
    (zip_more (TellsOutside sites) outside c.loop-shipment.told.items place c.shipment-item.result told c.loop-shipment-test.true c.shipment-item.is c.loop-shipment.invariant tells)

pub returns : goal.returns
returns c =
    let sites = c.args.relating.now.sites in
    subst (AreToldOutside sites c.args.outside.now) (sym c.from_vec.ensures)
    (subst (λ outside. AreToldOutside sites outside c.loop-shipment.told.items) (take_all c.loop-shipment.shipment-index c.args.outside.now c.loop-shipment-test.false) c.loop-shipment.invariant)
