use Rattle.site_recovery.proofs.Worlds.{empty_fits}
use Rattle.site_recovery.proofs.laws.empty_sites_fit_together.Goals as goal

pub returns : goal.returns
returns c = empty_fits
