use Rattle.std.proofs.Common.{refl, arith}
use Rattle.site_core.proofs.OneAfterAnother.{one_more_passed, all_below_passed}
use Rattle.site_recovery.proofs.every.each_element.Goals as goal

pub loop-element-init : goal.loop-element-init
loop-element-init g c = λ k x low _ _. absurd (omega (arith, low))

pub loop-element-preserved : goal.loop-element-preserved
loop-element-preserved g c = one_more_passed (g.T.Test.holds c.args.test.now) c.args.elements.now c.loop-element.element-index c.element-item.result c.element-item.is (c.in_ok-passes.ensures.0 c.if-not-branch.false) c.loop-element.invariant

pub returns : goal.returns
returns g c = (λ _. all_below_passed (g.T.Test.holds c.args.test.now) c.args.elements.now c.loop-element.element-index c.loop-element-test.false c.loop-element.invariant, λ _. refl)
