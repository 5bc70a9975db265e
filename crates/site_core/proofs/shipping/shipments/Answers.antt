use Rattle.std.proofs.Common.{◌≡◌, map, arith}
use Rattle.std.proofs.lemmas.Result.{IfOk-weaker}
use Rattle.site_core.specs.Shipments.{AreShipments}
use Rattle.site_core.proofs.Shipped.{item_added, shipped_told, told}
use Rattle.site_core.proofs.shipping.shipments.Goals as goal

pub loop-item-preserved : goal.loop-item-preserved
loop-item-preserved c = item_added c.args.captured.now c.args.items.now c.loop-item.item-index c.item-item.result c.loop-item.found _ (omega arith) c.item-item.is c.in_ok-add_shipments.ensures c.loop-item.invariant

pub returns : goal.returns
returns c = IfOk-weaker c.told.result
    (λ out. out.items ≡ map told c.in_ok-keys_in_order.field-0.items)
    (λ out. AreShipments c.args.captured.now c.args.items.now out.items)
    (λ out is. shipped_told c.args.captured.now c.args.items.now c.loop-item.item-index c.loop-item.found c.in_ok-keys_in_order.field-0.items out.items (omega arith) c.loop-item.invariant c.in_ok-keys_in_order.ensures.keys c.in_ok-keys_in_order.ensures.ascending is)
    c.told.ensures
