use Rattle.std.proofs.Common.{refl}
use mathlib.Core.Bool.{false≢true}
use Rattle.site_core.proofs.OneAfterAnother.{none_passed, one_passed, all_passed, one_fails}
use Rattle.site_core.proofs.every.each_entry.Goals as goal

pub loop-key-init : goal.loop-key-init
loop-key-init g c = none_passed (λ e. g.T.EntryTest.holds c.args.test.now e.0 e.1) c.args.map.now.entries c.into_iter-key-iterator.result c.into_iter-key-iterator.ensures.into_iter_gives.0

pub returns-then-not-passes : goal.returns-then-not-passes
returns-then-not-passes g c = (
  λ e. absurd (false≢true e),
  λ all. one_fails (λ e. g.T.EntryTest.holds c.args.test.now e.0 e.1) c.args.map.now.entries c.loop-key.key-iterator c.next.new.self (c.in-Some.key.now, c.in-Some.value.now) c.passes.result
      c.in-Some.ensures.steps c.if-not-passes.true c.passes.ensures c.loop-key.invariant (λ e at. all e.0 e.1 at),
)

pub loop-key-preserved : goal.loop-key-preserved
loop-key-preserved g c =
    one_passed (λ e. g.T.EntryTest.holds c.args.test.now e.0 e.1) c.args.map.now.entries c.loop-key.key-iterator c.next.new.self (c.in-Some.key.now, c.in-Some.value.now)
    c.in-Some.ensures.steps (c.passes.ensures.0 c.if-not-passes.false) c.loop-key.invariant

pub returns : goal.returns
returns g c = (
  λ _ k v at. all_passed (λ e. g.T.EntryTest.holds c.args.test.now e.0 e.1) c.args.map.now.entries c.loop-key.key-iterator c.in-None.ensures.steps.0 c.loop-key.invariant (k, v) at,
  λ _. refl,
)
