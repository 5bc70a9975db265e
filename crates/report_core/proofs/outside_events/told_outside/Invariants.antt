use Rattle.std.proofs.Common.{take}
use Rattle.report_core.specs.OutsideEvents.{AreToldOutside}
use Rattle.report_core.proofs.outside_events.told_outside.Given as goal

-- those of the shipments so far
abbrev pub invariant-loop-shipment : goal.invariant-loop-shipment
invariant-loop-shipment l = AreToldOutside l.relating.sites (take l.shipment-index l.outside) l.told.items
