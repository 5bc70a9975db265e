use Rattle.site_core.proofs.Soundness.{does_sound}
use Rattle.site_core.proofs.laws.steps_stay_sound.Goals as goal

pub returns : goal.returns
returns c = does_sound
