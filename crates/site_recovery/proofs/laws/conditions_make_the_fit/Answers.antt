use Rattle.site_recovery.proofs.Joined.{fit_by_conditions}
use Rattle.site_recovery.proofs.Parents.{quiet_ends_follow}
use Rattle.site_recovery.proofs.laws.conditions_make_the_fit.Goals as goal

pub returns : goal.returns
returns c = record { all = fit_by_conditions; ninth = quiet_ends_follow }
