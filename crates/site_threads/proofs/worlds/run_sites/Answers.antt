use Rattle.std.proofs.Common.{All, sym, subst, rules}
use Rattle.world_core.specs.Keepers.{AllShow}
use Rattle.site_threads.proofs.Ending.{fit_before}
use Rattle.site_threads.proofs.Leaving.{hindered_if_err, ran_if_ok}
use Rattle.site_threads.proofs.worlds.run_sites.Goals as goal

pub returns-in_default-clause-fault : goal.returns-in_default-clause-fault
returns-in_default-clause-fault g c =
    let w = c.requires.world in
    record { err = (tt, fit_before g.K.SiteKeeper.shown g.K.SiteKeeper.may c.args.keepers.items w.0 w.1 w.2); why = tt; named = search rules; left = search rules }

pub run_in-ended-requires-clause-world : goal.run_in-ended-requires-clause-world
run_in-ended-requires-clause-world g c κs within =
    let w = c.requires.world in
    let show = subst (λ ks. AllShow g.K.SiteKeeper.shown ks w.0) (sym c.deref.ensures.value) w.1 in
    (w.0, w.1, w.2, c.in-Ok.ensures.seat w.0 show, c.in-Ok.ensures.start w.0 show)

pub returns-clause-stored : goal.returns-clause-stored
returns-clause-stored g c all = subst (All g.K.SiteKeeper.stored) (sym c.told.ensures.back) (c.run_in-ended.ensures.stored all)

pub returns-clause-ran : goal.returns-clause-ran
returns-clause-ran g c =
    let e = c.run_in-ended.ensures in
    ran_if_ok g.K.SiteKeeper.shown g.K.SiteKeeper.may c.args.turns c.args.keepers.items c.args.desks.items c.run_in-ended.result e.began e.ends e.order e.run c.told.result c.told.ensures.ok e.fit e.kept e.turns e.none

pub returns-clause-fault : goal.returns-clause-fault
returns-clause-fault g c =
    let e = c.run_in-ended.ensures in
    hindered_if_err g.K.SiteKeeper.shown g.K.SiteKeeper.may c.args.turns c.args.keepers.items c.args.desks.items c.run_in-ended.result e.began e.ends e.order e.run g.K.SiteKeeper.reopens g.G.Gate.gives_up c.told.result c.told.ensures.err e.left e.cause e.why e.first
