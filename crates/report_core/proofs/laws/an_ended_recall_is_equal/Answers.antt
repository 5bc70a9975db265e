use Rattle.report_core.proofs.EndedRecalls.{ends_are_equal}
use Rattle.report_core.proofs.laws.an_ended_recall_is_equal.Goals as goal

pub returns : goal.returns
returns c = ends_are_equal
