use Rattle.std.proofs.Common.{◌+◌, ◌-◌, arith, subst, sym, take}
use Rattle.std.specs.List.{AllZip}
use Rattle.report_core.specs.FirstPlaces.{IsWantedStep}
use Rattle.report_core.specs.TrailEvents.{IsRelatedStep, TellsStep, steps_of}
use Rattle.report_core.proofs.StepsAlong.{all_told, one_told, step_holds, step_related}
use Rattle.report_core.proofs.trail_events.told_of.Goals as goal

pub push_told-requires-clause-related : goal.push_told-requires-clause-related
push_told-requires-clause-related c =
    step_related c.args.pairs.now c.loop-place.place (omega (arith, c.loop-place.auto.place)) c.loop-place-test.true c.index-pairs-place.result c.index-pairs-place-in-loop-place.result
    c.index-pairs-place.is c.index-pairs-place-in-loop-place.is (IsRelatedStep c.args.relating.now.sites) c.requires.related

pub push_told-requires-clause-wanted : goal.push_told-requires-clause-wanted
push_told-requires-clause-wanted c =
    step_holds c.args.pairs.now c.loop-place.place (omega (arith, c.loop-place.auto.place)) c.loop-place-test.true c.index-pairs-place.result c.index-pairs-place-in-loop-place.result
    c.index-pairs-place.is c.index-pairs-place-in-loop-place.is (λ step. IsWantedStep c.args.relating.now.wanted step.0 step.1) c.requires.wanted

pub loop-place-preserved : goal.loop-place-preserved
loop-place-preserved c =
    let sites = c.args.relating.now.sites in
    let (events, pushed, tells) = c.in_ok-push_told.ensures in
    subst (AllZip (λ step. TellsStep sites step.0 step.1) (take (c.loop-place.place + 1 - 1) (steps_of c.args.pairs.now))) (sym pushed)
    (one_told c.args.pairs.now c.loop-place.place (omega (arith, c.loop-place.auto.place)) c.loop-place-test.true c.index-pairs-place.result c.index-pairs-place-in-loop-place.result
    c.index-pairs-place.is c.index-pairs-place-in-loop-place.is (λ step. TellsStep sites step.0 step.1) c.loop-place.told.items events c.loop-place.invariant tells)

pub returns : goal.returns
returns c =
    let sites = c.args.relating.now.sites in
    subst (AllZip (λ step. TellsStep sites step.0 step.1) (steps_of c.args.pairs.now)) (sym c.from_vec.ensures)
    (all_told c.args.pairs.now c.loop-place.place (omega (arith, c.loop-place.auto.place)) (λ step. TellsStep sites step.0 step.1) c.loop-place.told.items (omega (arith, c.loop-place-test.false)) c.loop-place.invariant)
