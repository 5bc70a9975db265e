use Rattle.world_core.proofs.OneSite.{opened_back, unopened_back}
use Rattle.world_core.proofs.turns.reopened.Goals as goal

pub returns-in-Ok-clause-world : goal.returns-in-Ok-clause-world
returns-in-Ok-clause-world g c new s =
    opened_back (g.K.SiteKeeper.shown c.args.keeper) (g.K.SiteKeeper.may c.args.keeper) (g.K.SiteKeeper.shown c.in-Ok.keeper) (g.K.SiteKeeper.may c.in-Ok.keeper) c.requires (c.in-Ok.ensures.opened c.requires) new s

pub returns-in-Err-clause-world : goal.returns-in-Err-clause-world
returns-in-Err-clause-world g c =
    let keeper = c.in-Err.unopened.keeper in
    unopened_back (g.K.SiteKeeper.shown c.args.keeper) (g.K.SiteKeeper.may c.args.keeper) (g.K.SiteKeeper.shown keeper) (g.K.SiteKeeper.may keeper) c.in-Err.unopened.fault c.hindered.result c.requires c.hindered.ensures c.in-Err.ensures.unopened
