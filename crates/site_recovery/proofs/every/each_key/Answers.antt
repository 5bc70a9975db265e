use Rattle.std.proofs.Common.{refl}
use mathlib.Core.Bool.{false≢true}
use Rattle.site_core.proofs.OneAfterAnother.{none_passed, one_passed, all_passed, one_fails}
use Rattle.site_recovery.proofs.every.each_key.Goals as goal

pub loop-key-init : goal.loop-key-init
loop-key-init g c = none_passed (g.T.Test.holds c.args.test.now) c.args.set.now.keys c.into_iter-key-iterator.result c.into_iter-key-iterator.ensures.into_iter_gives.0

pub returns-then-not-branch : goal.returns-then-not-branch
returns-then-not-branch g c = (
  λ e. absurd (false≢true e),
  one_fails (g.T.Test.holds c.args.test.now) c.args.set.now.keys c.loop-key.key-iterator c.next.new.self c.in-Some.key.now c.in_ok-passes.field-0 c.in-Some.ensures.steps c.if-not-branch.true c.in_ok-passes.ensures c.loop-key.invariant,
)

pub loop-key-preserved : goal.loop-key-preserved
loop-key-preserved g c =
    one_passed (g.T.Test.holds c.args.test.now) c.args.set.now.keys c.loop-key.key-iterator c.next.new.self c.in-Some.key.now c.in-Some.ensures.steps (c.in_ok-passes.ensures.0 c.if-not-branch.false) c.loop-key.invariant

pub returns : goal.returns
returns g c = (λ _. all_passed (g.T.Test.holds c.args.test.now) c.args.set.now.keys c.loop-key.key-iterator c.in-None.ensures.steps.0 c.loop-key.invariant, λ _. refl)
