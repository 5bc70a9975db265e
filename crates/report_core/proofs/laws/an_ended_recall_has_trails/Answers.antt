use Rattle.report_core.proofs.EndedRecalls.{ends_have_trails}
use Rattle.report_core.proofs.laws.an_ended_recall_has_trails.Goals as goal

pub returns : goal.returns
returns c = ends_have_trails
