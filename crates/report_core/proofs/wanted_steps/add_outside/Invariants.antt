use Rattle.std.proofs.Common.{take}
use Rattle.report_core.specs.FirstPlaces.{StayWanted}
use Rattle.report_core.specs.Leaving.{AreWantedOut}
use Rattle.report_core.proofs.wanted_steps.add_outside.Given as goal

-- the shipments so far are wanted, and what was before
abbrev pub invariant-loop-shipment : goal.invariant-loop-shipment
invariant-loop-shipment l = record {
  stay : StayWanted l.fn.wanted l.wanted;
  out : AreWantedOut l.wanted (take l.shipment-index l.outside);
}
