use Rattle.site_core.proofs.NamedFrames.{frames_have_names}
use Rattle.site_core.proofs.laws.frames_have_names.Goals as goal

pub returns : goal.returns
returns c = frames_have_names
