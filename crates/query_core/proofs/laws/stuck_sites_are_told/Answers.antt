use Rattle.query_core.proofs.StuckSites.{stuck_are_told}
use Rattle.query_core.proofs.laws.stuck_sites_are_told.Goals as goal

pub returns : goal.returns
returns c = stuck_are_told
