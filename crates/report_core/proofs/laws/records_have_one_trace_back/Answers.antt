use Rattle.report_core.proofs.BackTraces.{one_back_trace}
use Rattle.report_core.proofs.laws.records_have_one_trace_back.Goals as goal

pub returns : goal.returns
returns c = one_back_trace
