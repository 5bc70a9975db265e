use Rattle.report_core.proofs.EndedTraces.{one_trace}
use Rattle.report_core.proofs.laws.records_have_one_trace.Goals as goal

pub returns : goal.returns
returns c = one_trace
