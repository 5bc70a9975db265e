use Rattle.trace_core.proofs.Growing.{stays_related}
use Rattle.trace_core.proofs.laws.related_stays.Goals as goal

pub returns : goal.returns
returns c = stays_related
