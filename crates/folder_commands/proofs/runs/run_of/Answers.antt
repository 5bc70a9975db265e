use Rattle.std.proofs.Common.{◌≡◌, map, ap, refl, sym, ◌∙◌, inl, is_some, subst, true, Option}
use Rattle.std.proofs.lemmas.Bool.{true≢false}
use Rattle.folder_commands.specs.declared.notes.RunEnd.{RunEnd}
use Rattle.site_threads.specs.declared.gather.GatherCause.TheVariants.{NotAWorld}
use Rattle.world_core.specs.declared.faults.WorldFault.TheVariants as worlds
use Rattle.site_folders.proofs.CallsInTurn.{ok_so}
use Rattle.folder_commands.proofs.RunLemmas.{all_kept_open, came_to_its_end, misfit_told, of_sites, ran_if_any, run_failed_so, run_untold}
use Rattle.folder_commands.proofs.runs.run_of.Goals as goal
use Rattle.folder_commands.proofs.runs.run_of.Goals.{in-Ok-tell_run, in-Err-tell_run}

pub returns-in_default-clause-failed : goal.returns-in_default-clause-failed
returns-in_default-clause-failed g c = record { cause = NotAWorld worlds.NoMemory; hinders = tt; fit = refl; explained = tt; fault_is = refl; ran = inl refl }

pub tell_run-requires-clause-open : goal.tell_run-requires-clause-open
tell_run-requires-clause-open g c = all_kept_open g.K.SiteKeeper.shown c.in-Ok-run_world.run'.keepers.items c.in-Ok-run_world.run'.lists.items c.in-Ok-run_world.ensures.ran.kept

pub tell_run-requires-clause-all : goal.tell_run-requires-clause-all
tell_run-requires-clause-all g c =
    let run = c.in-Ok-run_world.run' in
    let failed = g.K.SiteKeeper.failed in
    let counts = c.as_slice-in-Ok-run_world.ensures.value ∙ (c.in-Ok.ensures.failures ∙ ap (map failed) c.as_slice.ensures.value) in
    of_sites g.K.SiteKeeper.shown failed c.args.keepers.items run.keepers.items run.lists.items _ c.in-Ok-run_world.ensures.ran.kept c.in-Ok-run_world.ensures.back c.requires.count.1 counts

pub returns-in-Ok-run_world-clause-answered : goal.returns-in-Ok-run_world-clause-answered
returns-in-Ok-run_world-clause-answered g c =
    let shown = g.K.SiteKeeper.shown in
    let failed = g.K.SiteKeeper.failed in
    let run = c.in-Ok-run_world.run' in
    let ran = c.in-Ok-run_world.ensures.ran in
    let counts = c.as_slice-in-Ok-run_world.ensures.value ∙ (c.in-Ok.ensures.failures ∙ ap (map failed) c.as_slice.ensures.value) in
    elim c.match-tell_run.branch [
      | in-Ok-tell_run w ↦ rw w.ran-is (refl, came_to_its_end shown failed g.K.SiteKeeper.may c.args.terms c.args.keepers.items run.keepers.items c.in-Ok.desks.items run.lists.items _ _ _ ran.began ran.kept c.in-Ok.ensures.limits ran.ends ran.turns ran.run counts w.in-Ok-tell_run.ensures.told w.in-Ok-tell_run.ensures.noted)
      | in-Err-tell_run w ↦ rw w.ran-is tt
    ]

pub returns-clause-answered : goal.returns-clause-answered
returns-clause-answered g c =
    let left = c.in-Err.field-0 in
    let why = c.in-Err.ensures.fault.err in
    ok_so c.tell_cause.result
    (λ r told. misfit_told g.K.SiteKeeper.shown g.K.SiteKeeper.may g.K.SiteKeeper.failed c.args.terms c.args.keepers.items left.keepers.items left.cause r.outcome r.end why.0 why.1 told.0 told.1)
    c.tell_cause.ensures.answered

pub returns-in-Ok-run_world-clause-fit : goal.returns-in-Ok-run_world-clause-fit
returns-in-Ok-run_world-clause-fit g c =
    elim c.match-tell_run.branch [
      | in-Ok-tell_run w ↦ rw w.ran-is (λ some. c.in-Ok-run_world.ensures.ran.fit)
      | in-Err-tell_run w ↦ rw w.ran-is tt
    ]

pub returns-clause-fit : goal.returns-clause-fit
returns-clause-fit g c =
    ok_so c.tell_cause.result
    (λ r told some. absurd (true≢false (sym (subst (λ (o : Option RunEnd). is_some o ≡ true) told.1 some))))
    c.tell_cause.ensures.answered

pub returns-in-Ok-run_world-clause-stored : goal.returns-in-Ok-run_world-clause-stored
returns-in-Ok-run_world-clause-stored g c = c.in-Ok-run_world.ensures.stored

pub returns-clause-stored : goal.returns-clause-stored
returns-clause-stored g c = c.in-Err.ensures.stored

pub returns-in-Ok-run_world-clause-failed : goal.returns-in-Ok-run_world-clause-failed
returns-in-Ok-run_world-clause-failed g c =
    let run = c.in-Ok-run_world.run' in
    let ran = c.in-Ok-run_world.ensures.ran in
    elim c.match-tell_run.branch [
      | in-Ok-tell_run w ↦ rw w.ran-is tt
      | in-Err-tell_run w ↦ rw w.ran-is (run_untold g.K.SiteKeeper.shown g.K.SiteKeeper.may g.K.SiteKeeper.reopens g.G.Gate.gives_up c.args.terms.turns c.args.keepers.items run.keepers.items run.lists.items ran.fit ran.run)
    ]

pub returns-clause-failed : goal.returns-clause-failed
returns-clause-failed g c =
    let left = c.in-Err.field-0 in
    let h = c.in-Err.ensures.fault in
    run_failed_so g.K.SiteKeeper.shown g.K.SiteKeeper.may g.K.SiteKeeper.reopens g.G.Gate.gives_up c.args.terms.turns c.args.keepers.items left.keepers.items left.cause c.tell_cause.result h.err.0 h.err.1 h.why
    (ran_if_any g.K.SiteKeeper.shown g.K.SiteKeeper.may c.args.terms.turns c.args.keepers.items _ left h.left) c.tell_cause.ensures.failed
