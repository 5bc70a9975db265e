use Rattle.std.proofs.Common.{◌∙◌, arith, subst, sym}
use mathlib.Core.Bool.{false≢true}
use Rattle.report_core.specs.Leaving.{StandsUnder}
use Rattle.report_core.proofs.FirstUnder.{under_later, under_none}
use Rattle.report_core.proofs.outside_events.first_under.Goals as goal

pub loop-number-preserved : goal.loop-number-preserved
loop-number-preserved c =
    under_later c.args.shipments.now c.args.place c.args.carriers.now c.loop-number.number c.loop-number.invariant c.loop-number-test.true c.index-carriers-number.result c.index-carriers-number.is
    (λ kept. false≢true (sym c.if-stands_under.false ∙ c.stands_under.ensures.1 (subst (λ p. StandsUnder c.args.shipments.now p c.args.place) c.index-carriers-number.is kept)))

pub returns : goal.returns
returns c = under_none c.args.shipments.now c.args.place c.args.carriers.now c.loop-number.number c.loop-number.invariant (omega (arith, c.loop-number-test.false, c.loop-number.auto.number-end))
