use Rattle.world_core.proofs.Fitting.{turns_keep_the_fit, runs_keep_the_fit}
use Rattle.world_core.proofs.FreshSites.{fresh_sites_fit}
use Rattle.world_core.proofs.laws.runs_keep_the_fit.Goals as goal

pub returns : goal.returns
returns c = record { fresh = fresh_sites_fit; turn = turns_keep_the_fit; run = runs_keep_the_fit }
