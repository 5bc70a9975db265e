use Rattle.site_core.proofs.OneOutcome.{one_outcome}
use Rattle.site_core.proofs.capturing_laws.events_have_one_outcome.Goals as goal

pub returns : goal.returns
returns c = one_outcome
