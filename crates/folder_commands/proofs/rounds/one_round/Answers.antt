use Rattle.std.proofs.Common.{IfOk, refl, subst, inl}
use Rattle.site_threads.specs.declared.gather.GatherCause.TheVariants.{NotAWorld}
use Rattle.world_core.specs.declared.faults.WorldFault.TheVariants as worlds
use Rattle.folder_commands.specs.Runs.{AnswersRun, HaveTraffic}
use Rattle.folder_commands.proofs.RoundLemmas.{goes_on_told, rested_told, told_whether}
use Rattle.folder_commands.proofs.rounds.one_round.Goals as goal

pub returns-in_default-clause-failed : goal.returns-in_default-clause-failed
returns-in_default-clause-failed g c = record { cause = NotAWorld worlds.NoMemory; hinders = tt; fit = refl; explained = tt; fault_is = refl; ran = inl refl }

pub returns-in-Ok-true-clause-next : goal.returns-in-Ok-true-clause-next
returns-in-Ok-true-clause-next g c is =
    let shown = g.K.SiteKeeper.shown in
    let failed = g.K.SiteKeeper.failed in
    let may = g.K.SiteKeeper.may in
    let old = c.args.keepers.items in
    let new = c.run_of-after.result.0.items in
    let before = c.in-Ok.before.items in
    let ran = c.in-Ok-came.ran in
    goes_on_told shown failed may c.args.terms before old new ran.outcome ran.end (subst (λ ks. HaveTraffic shown ks before) c.as_slice.ensures.value c.in-Ok.ensures) c.requires.shown
    (subst (λ r. IfOk r (λ it. AnswersRun shown failed may c.args.terms old new it.outcome it.end)) c.in-Ok-came.is c.run_of-after.ensures.answered)
    (told_whether shown _ before _ new ran.end _ _ c.as_slice-in-Ok-came.ensures.value c.as_slice-in-Ok-came-2.ensures.value c.in-Ok-true.field-0-test c.in-Ok-true.ensures.told)

pub returns-in-Ok-false-clause-answered : goal.returns-in-Ok-false-clause-answered
returns-in-Ok-false-clause-answered g c =
    let shown = g.K.SiteKeeper.shown in
    let failed = g.K.SiteKeeper.failed in
    let may = g.K.SiteKeeper.may in
    let old = c.args.keepers.items in
    let new = c.run_of-after.result.0.items in
    let before = c.in-Ok.before.items in
    let ran = c.in-Ok-came.ran in (
      subst (λ r. IfOk r (λ it. AnswersRun shown failed may c.args.terms old new it.outcome it.end)) c.in-Ok-came.is c.run_of-after.ensures.answered,
      rested_told shown failed may c.args.terms before old new ran.end (subst (λ ks. HaveTraffic shown ks before) c.as_slice.ensures.value c.in-Ok.ensures)
          (told_whether shown _ before _ new ran.end _ _ c.as_slice-in-Ok-came.ensures.value c.as_slice-in-Ok-came-2.ensures.value c.in-Ok-false.field-0-test c.in-Ok-false.ensures.told),
    )
