use Rattle.std.proofs.Common.{◌∙◌, sym, arith}
use mathlib.Core.Bool.{false≢true}
use Rattle.gap_core.proofs.LineSteps.{run_begins, run_ends, run_goes_on, run_stops}
use Rattle.gap_core.proofs.lines.end_of_run.Goals as goal

pub loop-end-init : goal.loop-end-init
loop-end-init c = run_begins c.args.items.now c.args.start

pub loop-end-preserved : goal.loop-end-preserved
loop-end-preserved c =
    run_goes_on c.args.items.now c.args.start c.loop-end.end c.index-items-start.result c.index-items-end.result c.index-items-start.is c.index-items-end.is (omega (arith, c.loop-end-test.true)) c.loop-end.invariant
    (c.have_one_key.ensures.0 c.if-not-have_one_key.false)

pub returns-then-not-have_one_key : goal.returns-then-not-have_one_key
returns-then-not-have_one_key c =
    run_stops c.args.items.now c.args.start c.loop-end.end c.index-items-start.result c.index-items-end.result c.index-items-start.is c.index-items-end.is (omega (arith, c.loop-end-test.true)) c.loop-end.invariant
    (λ one. false≢true (sym c.if-not-have_one_key.true ∙ c.have_one_key.ensures.1 one))

pub returns : goal.returns
returns c = run_ends c.args.items.now c.args.start c.loop-end.end c.requires (omega (arith, c.loop-end-test.false)) c.loop-end.invariant
