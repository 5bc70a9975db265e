use Rattle.std.proofs.Common.{IfOk, IfSome, arith, ap, is_none, subst}
use Rattle.std.proofs.lemmas.Result.{IfErr-weaker, IfOk-weaker}
use Rattle.folder_commands.specs.Runs.{AnswersRun, AnswersRounds, FailsRounds, FailsRun, HasRested}
use Rattle.folder_commands.proofs.RoundLemmas.{fails_last, more_so_far, over_full, over_rested}
use Rattle.folder_commands.proofs.rounds.run_rounds.Goals as goal

pub returns-in-Some-clause-answered : goal.returns-in-Some-clause-answered
returns-in-Some-clause-answered g c =
    let shown = g.K.SiteKeeper.shown in
    let failed = g.K.SiteKeeper.failed in
    let may = g.K.SiteKeeper.may in
    let old = c.args.keepers.items in
    let mid = c.loop.keepers.items in
    let new = c.one_round-after.result.0.items in
    IfOk-weaker c.in-Some.ran
    (λ ran. AnswersRun shown failed may c.args.terms mid new ran.outcome ran.end × HasRested shown mid new ran.end)
    (λ ran. AnswersRounds shown failed may c.args.terms old new ran.outcome ran.end)
    (λ ran came. over_rested shown failed may c.args.terms old mid new ran.outcome ran.end c.loop.counter c.if-not-terms.false c.loop.invariant.0 came)
    (subst (λ o. IfSome o (λ it. IfOk it (λ ran. AnswersRun shown failed may c.args.terms mid new ran.outcome ran.end × HasRested shown mid new ran.end))) c.in-Some.is c.one_round-after.ensures.answered)

pub loop-preserved : goal.loop-preserved
loop-preserved g c = (
  more_so_far g.K.SiteKeeper.shown g.K.SiteKeeper.failed g.K.SiteKeeper.may c.args.terms c.args.keepers.items c.loop.keepers.items c.one_round-after.result.0.items c.loop.counter c.loop.invariant.0
      (c.one_round-after.ensures.next (ap is_none c.in_default.is)),
  λ all. c.one_round-after.ensures.stored (c.loop.invariant.1 all),
)

pub returns-clause-answered : goal.returns-clause-answered
returns-clause-answered g c =
    let shown = g.K.SiteKeeper.shown in
    let failed = g.K.SiteKeeper.failed in
    let may = g.K.SiteKeeper.may in
    let old = c.args.keepers.items in
    let mid = c.loop.keepers.items in
    let new = c.run_of-2.result.0.items in
    IfOk-weaker c.run_of-2.result.1
    (λ ran. AnswersRun shown failed may c.args.terms mid new ran.outcome ran.end)
    (λ ran. AnswersRounds shown failed may c.args.terms old new ran.outcome ran.end)
    (λ ran came. over_full shown failed may c.args.terms old mid new ran.outcome ran.end c.loop.counter c.if-not-terms.false c.loop.invariant.0 (omega (arith, c.loop-test.false, c.loop.auto.counter-end)) came)
    c.run_of-2.ensures.answered

pub returns-clause-failed : goal.returns-clause-failed
returns-clause-failed g c =
    let shown = g.K.SiteKeeper.shown in
    let failed = g.K.SiteKeeper.failed in
    let may = g.K.SiteKeeper.may in
    let reopens = g.K.SiteKeeper.reopens in
    let gives_up = g.G.Gate.gives_up in
    let old = c.args.keepers.items in
    let mid = c.loop.keepers.items in
    let new = c.run_of-2.result.0.items in
    IfErr-weaker c.run_of-2.result.1
    (λ fault. FailsRun shown may reopens gives_up c.args.terms.turns mid new fault)
    (λ fault. FailsRounds shown failed may reopens gives_up c.args.terms old new fault)
    (λ fault fails. fails_last shown failed may reopens gives_up c.args.terms old mid new fault c.loop.counter c.if-not-terms.false c.loop.invariant.0 fails)
    c.run_of-2.ensures.failed

pub returns-in-Some-clause-stored : goal.returns-in-Some-clause-stored
returns-in-Some-clause-stored g c = λ all. c.one_round-after.ensures.stored (c.loop.invariant.1 all)
