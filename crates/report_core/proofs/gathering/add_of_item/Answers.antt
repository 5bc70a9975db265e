use Rattle.std.proofs.Common.{◌≡◌, ◌↔◌, List, subst, sym}
use Rattle.std.specs.List.{Contains}
use Rattle.trace_core.specs.Pairs.{IsCarriedWith}
use Rattle.trace_core.specs.declared.pairs.Pair.{Pair}
use Rattle.report_core.specs.Gathering.{Adds, CarrierTells, OneTells, PlaceTells}
use Rattle.report_core.proofs.Adding.{added_alike, one_more, all_added}
use Rattle.report_core.proofs.Outgoing.{item_told}
use Rattle.report_core.proofs.gathering.add_of_item.Goals as goal

pub loop-carrier-preserved : goal.loop-carrier-preserved
loop-carrier-preserved c =
    let tells = CarrierTells c.args.containers.now.site.now.events c.args.shipments.now c.args.site c.args.item.now in
    one_more tells c.as_slice-carrier-items.result.now c.loop-carrier.carrier-index c.carrier-item.result c.args.found.now c.loop-carrier.found c.add_of_places.new.found c.loop-carrier-test.true c.carrier-item.is c.loop-carrier.invariant
    (subst (λ ps. Adds c.loop-carrier.found c.add_of_places.new.found (OneTells ps (PlaceTells c.args.containers.now.site.now.events c.args.site c.args.item.now))) c.places_under-places.ensures c.in_ok-add_of_places.ensures)

pub returns : goal.returns
returns c =
    let s = c.args.containers.now.site.now in
    let carriers = c.as_slice-carrier-items.result.now in
    let tells = CarrierTells s.events c.args.shipments.now c.args.site c.args.item.now in
    let exact = subst (λ (ps : List Pair). (p : Pair) → Contains ps p ↔ ((p.site ≡ s.me) × IsCarriedWith s.events p.item c.args.item.now)) (sym c.as_slice-carrier-items.ensures) c.in_ok-carriers.ensures.all in
    added_alike c.args.found.now c.loop-carrier.found _ _ (item_told s c.args.containers.now.number c.args.site c.args.item.now c.args.shipments.now carriers c.requires.shipments exact)
    (all_added tells carriers c.loop-carrier.carrier-index c.args.found.now c.loop-carrier.found c.loop-carrier-test.false c.loop-carrier.invariant)
