use Rattle.site_core.proofs.Openings.{starts_open}
use Rattle.site_core.proofs.step_laws.a_start_opens_a_recall.Goals as goal

pub returns : goal.returns
returns c = starts_open
