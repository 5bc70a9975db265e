use Rattle.std.proofs.Common.{◌∙◌, sym, arith}
use Rattle.site_threads.specs.Runs.{IsBetween, IsSliced}
use Rattle.site_threads.proofs.Slices.{HasGone, all_begun, all_gone_on, all_ran, all_spent}
use Rattle.site_threads.proofs.Zips.{all_right, as_long, zip_from}
use Rattle.site_threads.proofs.runs.run_all.Goals as goal

pub loop-init : goal.loop-init
loop-init g c = all_begun g.K.SiteKeeper.shown g.K.SiteKeeper.reopens g.G.Gate.gives_up c.args.turns g.K.SiteKeeper.stored c.args.runs.now c.requires.ready

pub run_slices-requires-clause-count : goal.run_slices-requires-clause-count
run_slices-requires-clause-count g c =
    let long = as_long (HasGone {G = g.row.G.Denot} g.K.SiteKeeper.shown g.K.SiteKeeper.reopens g.G.Gate.gives_up c.args.turns g.K.SiteKeeper.stored c.loop.counter) c.args.runs.now c.loop.runs c.loop.invariant in
    let some = c.requires.count in
    omega (arith, long, some)

pub run_slices-requires-clause-between : goal.run_slices-requires-clause-between
run_slices-requires-clause-between g c κs within =
    all_right (HasGone {G = g.row.G.Denot} g.K.SiteKeeper.shown g.K.SiteKeeper.reopens g.G.Gate.gives_up c.args.turns g.K.SiteKeeper.stored c.loop.counter)
    (IsBetween {G = g.row.G.Denot} g.K.SiteKeeper.shown g.K.SiteKeeper.reopens g.G.Gate.gives_up c.args.turns)
    c.args.runs.now c.loop.runs (λ x y h. h.between) c.loop.invariant

pub loop-preserved : goal.loop-preserved
loop-preserved g c =
    let sliced = IsSliced {G = g.row.G.Denot} g.K.SiteKeeper.shown g.K.SiteKeeper.reopens g.G.Gate.gives_up c.args.turns g.K.SiteKeeper.stored in
    all_gone_on g.K.SiteKeeper.shown g.K.SiteKeeper.reopens g.G.Gate.gives_up c.args.turns g.K.SiteKeeper.stored c.loop.counter c.args.runs.now c.loop.runs c.run_slices.new.runs c.loop.invariant
    (zip_from sliced c.loop.runs c.run_slices.new.runs c.run_slices.ensures.count c.run_slices.ensures.each)

pub returns-after-loop : goal.returns-after-loop
returns-after-loop g c =
    all_spent g.K.SiteKeeper.shown g.K.SiteKeeper.reopens g.G.Gate.gives_up c.args.turns g.K.SiteKeeper.stored c.loop.counter c.args.runs.now c.loop.runs
    (let past = c.loop-test.false in omega (arith, past)) c.loop.invariant

pub returns-then-have_run : goal.returns-then-have_run
returns-then-have_run g c =
    let sliced = IsSliced {G = g.row.G.Denot} g.K.SiteKeeper.shown g.K.SiteKeeper.reopens g.G.Gate.gives_up c.args.turns g.K.SiteKeeper.stored in
    all_ran g.K.SiteKeeper.shown g.K.SiteKeeper.reopens g.G.Gate.gives_up c.args.turns g.K.SiteKeeper.stored _ c.args.runs.now c.run_slices.new.runs
    (all_gone_on g.K.SiteKeeper.shown g.K.SiteKeeper.reopens g.G.Gate.gives_up c.args.turns g.K.SiteKeeper.stored c.loop.counter c.args.runs.now c.loop.runs c.run_slices.new.runs c.loop.invariant
    (zip_from sliced c.loop.runs c.run_slices.new.runs c.run_slices.ensures.count c.run_slices.ensures.each))
    (sym c.have_run.ensures ∙ c.if-have_run.true)
