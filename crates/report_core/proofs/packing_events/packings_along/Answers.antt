use Rattle.std.proofs.Common.{◌+◌, ◌-◌, arith, subst, sym, take}
use Rattle.std.specs.List.{AllZip}
use Rattle.report_core.specs.Packings.{IsPutInto, TellsPut}
use Rattle.report_core.specs.TrailEvents.{steps_of}
use Rattle.report_core.proofs.StepsAlong.{all_told, one_told, step_related}
use Rattle.report_core.proofs.packing_events.packings_along.Goals as goal

pub push_packing-requires-clause-put : goal.push_packing-requires-clause-put
push_packing-requires-clause-put c =
    step_related c.args.pairs.now c.loop-place.place (omega (arith, c.loop-place.auto.place)) c.loop-place-test.true c.index-pairs-place.result c.index-pairs-place-in-loop-place.result
    c.index-pairs-place.is c.index-pairs-place-in-loop-place.is (IsPutInto c.args.containers.now.site.now.events) c.requires.put

pub loop-place-preserved : goal.loop-place-preserved
loop-place-preserved c =
    let put = TellsPut c.args.containers.now.site.now.events in
    let (x, pushed, tells) = c.in_ok-push_packing.ensures in
    subst (AllZip put (take (c.loop-place.place + 1 - 1) (steps_of c.args.pairs.now))) (sym pushed)
    (one_told c.args.pairs.now c.loop-place.place (omega (arith, c.loop-place.auto.place)) c.loop-place-test.true c.index-pairs-place.result c.index-pairs-place-in-loop-place.result
    c.index-pairs-place.is c.index-pairs-place-in-loop-place.is put c.loop-place.told.items x c.loop-place.invariant tells)

pub returns : goal.returns
returns c =
    let put = TellsPut c.args.containers.now.site.now.events in
    subst (AllZip put (steps_of c.args.pairs.now)) (sym c.from_vec.ensures)
    (all_told c.args.pairs.now c.loop-place.place (omega (arith, c.loop-place.auto.place)) put c.loop-place.told.items (omega (arith, c.loop-place-test.false)) c.loop-place.invariant)
