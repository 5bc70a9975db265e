use Rattle.recall_outcomes.proofs.StatusLaws.{statuses_tell}
use Rattle.recall_outcomes.proofs.laws.statuses_tell_outcomes.Goals as goal

pub returns : goal.returns
returns c = statuses_tell
