use Rattle.std.proofs.Common.{◌≡◌, ◌++◌, map}
use Rattle.std.specs.Vec.Iter.{into_iter_items}
use Rattle.site_core.proofs.Shipped.{told}
use Rattle.site_core.proofs.shipping.told.Given as goal

-- those so far and the rest are all
abbrev pub invariant-loop-shipment : goal.invariant-loop-shipment
invariant-loop-shipment l = record {
  can : (goal.iterator-loop-shipment).can_next l.shipment-iterator;
  finite : (goal.iterator-loop-shipment).is_finite l.shipment-iterator;
  all : l.out.items ++ map told (into_iter_items l.shipment-iterator) ≡ map told l.fn.shipments.items;
}
