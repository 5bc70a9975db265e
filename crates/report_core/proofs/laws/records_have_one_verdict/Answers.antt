use Rattle.report_core.proofs.EndedRecalls.{one_verdict}
use Rattle.report_core.proofs.laws.records_have_one_verdict.Goals as goal

pub returns : goal.returns
returns c = one_verdict
