use Rattle.std.proofs.Common.{◌≡◌, ◌∙◌, subst}
use Rattle.report_core.specs.Gathering.{Adds, Goes}
use Rattle.report_core.specs.declared.outside.OutsideShipment.{OutsideShipment}
use Rattle.report_core.proofs.Adding.{one_added, one_more, all_added}
use Rattle.report_core.proofs.gathering.add_of_destinations.Goals as goal

pub loop-text-preserved : goal.loop-text-preserved
loop-text-preserved c =
    let added : OutsideShipment = record { site = c.args.site; item = c.in_ok-copy.field-0; destination = c.of.result } in
    let is : added ≡ record { site = c.args.site; item = c.args.item.now; destination = c.text-item.result } = (λ i. record { site = c.args.site; item = c.in_ok-copy.ensures i; destination = (c.of.ensures ∙ c.in_ok-copy-2.ensures) i }) in
    one_more (Goes c.args.site c.args.item.now) c.args.destinations.now c.loop-text.text-index c.text-item.result c.args.found.now c.loop-text.found c.insert-in-loop-text.new.self c.loop-text-test.true c.text-item.is c.loop-text.invariant
    (subst (λ z. Adds c.loop-text.found c.insert-in-loop-text.new.self (λ y. z ≡ y)) is (one_added c.loop-text.found c.insert-in-loop-text.new.self added c.in_ok-insert.ensures.updates))

pub returns : goal.returns
returns c = all_added (Goes c.args.site c.args.item.now) c.args.destinations.now c.loop-text.text-index c.args.found.now c.loop-text.found c.loop-text-test.false c.loop-text.invariant
