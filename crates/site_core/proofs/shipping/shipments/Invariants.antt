use Rattle.std.proofs.Common.{take}
use Rattle.site_core.proofs.Shipped.{HasShipments}
use Rattle.site_core.proofs.shipping.shipments.Given as goal

-- the shipments of the items so far
abbrev pub invariant-loop-item : goal.invariant-loop-item
invariant-loop-item l = HasShipments l.captured (take l.item-index l.items) l.found
