use Rattle.site_recovery.proofs.Worlds.{ends_are_exact}
use Rattle.site_recovery.proofs.laws.an_end_is_exact.Goals as goal

pub returns : goal.returns
returns c = ends_are_exact
