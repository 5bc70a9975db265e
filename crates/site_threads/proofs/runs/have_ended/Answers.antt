use Rattle.std.proofs.Common.{refl}
use Rattle.std.specs.Prelude.{IsTrue}
use Rattle.std.specs.FinMap as map
use mathlib.Core.Bool.{false≢true}
use Rattle.site_core.proofs.OneAfterAnother.{one_passed, all_passed, one_fails}
use Rattle.site_threads.proofs.runs.have_ended.Goals as goal

pub returns-then-not-own : goal.returns-then-not-own
returns-then-not-own c = (
  λ e. absurd (false≢true e),
  λ all. one_fails (λ e. IsTrue e.1.ended) (map.entries c.args.state.now.engagement.own) c.loop-own.own-iterator c.next.new.self (c.in-Some.field-0-0.now, c.in-Some.own.now) c.in-Some.own.now.ended
      c.in-Some.ensures.steps c.if-not-own.true (λ x. x, λ x. x) c.loop-own.invariant (λ e at. all e.0 e.1 at),
)

pub loop-own-preserved : goal.loop-own-preserved
loop-own-preserved c =
    one_passed (λ e. IsTrue e.1.ended) (map.entries c.args.state.now.engagement.own) c.loop-own.own-iterator c.next.new.self (c.in-Some.field-0-0.now, c.in-Some.own.now)
    c.in-Some.ensures.steps c.if-not-own.false c.loop-own.invariant

pub returns : goal.returns
returns c = (
  λ _ number own at. all_passed (λ e. IsTrue e.1.ended) (map.entries c.args.state.now.engagement.own) c.loop-own.own-iterator c.in-None.ensures.steps.0 c.loop-own.invariant (number, own) at,
  λ _. refl,
)
