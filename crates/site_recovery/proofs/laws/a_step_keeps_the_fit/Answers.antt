use Rattle.site_recovery.proofs.Worlds.{steps_keep_the_fit}
use Rattle.site_recovery.proofs.laws.a_step_keeps_the_fit.Goals as goal

pub returns : goal.returns
returns c = steps_keep_the_fit
