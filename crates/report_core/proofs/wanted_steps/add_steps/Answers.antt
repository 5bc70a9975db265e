use Rattle.std.proofs.Common.{◌-◌, arith, take}
use Rattle.std.proofs.lemmas.List.Elements.{All-nil, All-weaker}
use Rattle.report_core.specs.FirstPlaces.{IsWantedStep}
use Rattle.report_core.specs.TrailEvents.{steps_of}
use Rattle.report_core.proofs.StepsAlong.{all_hold, one_holds}
use Rattle.report_core.proofs.wanted_steps.add_steps.Goals as goal

pub loop-place-init : goal.loop-place-init
loop-place-init c = record {
  stay = λ p q wanted. wanted;
  steps = All-nil (λ step. IsWantedStep c.args.wanted.now step.0 step.1);
}

pub loop-place-preserved : goal.loop-place-preserved
loop-place-preserved c =
    let pairs = c.args.pairs.now in
    let place = c.loop-place.place in
    let old = c.loop-place.wanted in
    let new = c.add_step.new.wanted in
    record {
      stay = λ p q wanted. c.in_ok-add_step.ensures.before p q (c.loop-place.invariant.stay p q wanted);
      steps = one_holds pairs place (omega (arith, c.loop-place.auto.place)) c.loop-place-test.true c.index-pairs-place.result c.index-pairs-place-in-loop-place.result
          c.index-pairs-place.is c.index-pairs-place-in-loop-place.is (λ step. IsWantedStep new step.0 step.1)
          (All-weaker (λ step. IsWantedStep old step.0 step.1) (λ step. IsWantedStep new step.0 step.1) (λ step. c.in_ok-add_step.ensures.before step.0 step.1) (take (place - 1) (steps_of pairs)) c.loop-place.invariant.steps)
          c.in_ok-add_step.ensures.new;
    }

pub returns-clause-new : goal.returns-clause-new
returns-clause-new c = all_hold c.args.pairs.now c.loop-place.place (omega (arith, c.loop-place.auto.place)) (λ step. IsWantedStep c.loop-place.wanted step.0 step.1)
    (omega (arith, c.loop-place-test.false)) c.loop-place.invariant.steps
