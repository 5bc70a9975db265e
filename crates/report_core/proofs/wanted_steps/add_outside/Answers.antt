use Rattle.std.proofs.Common.{subst, take}
use Rattle.std.proofs.lemmas.List.{take_all}
use Rattle.std.proofs.lemmas.List.Elements.{All-more, All-nil}
use Rattle.report_core.specs.Leaving.{AreWantedOut, IsWantedItem}
use Rattle.report_core.specs.declared.outside.OutsideShipment.{OutsideShipment}
use Rattle.report_core.proofs.StepsWanted.{still_out}
use Rattle.report_core.proofs.wanted_steps.add_outside.Goals as goal

pub loop-shipment-init : goal.loop-shipment-init
loop-shipment-init c = record {
  stay = λ p q wanted. wanted;
  out = All-nil (λ (x : OutsideShipment). IsWantedItem c.args.wanted.now x.item);
}

pub loop-shipment-preserved : goal.loop-shipment-preserved
loop-shipment-preserved c =
    let outside = c.args.outside.now in
    let place = c.loop-shipment.shipment-index in
    let old = c.loop-shipment.wanted in
    let new = c.add_shipped.new.wanted in
    record {
      stay = λ p q wanted. c.in_ok-add_shipped.ensures.before p q (c.loop-shipment.invariant.stay p q wanted);
      out = All-more (λ (x : OutsideShipment). IsWantedItem new x.item) outside place c.shipment-item.result c.loop-shipment-test.true
          (still_out old new c.in_ok-add_shipped.ensures.before (take place outside) c.loop-shipment.invariant.out)
          (subst (λ (x : OutsideShipment). IsWantedItem new x.item) c.shipment-item.is c.in_ok-add_shipped.ensures.new);
    }

pub returns-clause-new : goal.returns-clause-new
returns-clause-new c = subst (AreWantedOut c.loop-shipment.wanted) (take_all c.loop-shipment.shipment-index c.args.outside.now c.loop-shipment-test.false) c.loop-shipment.invariant.out
