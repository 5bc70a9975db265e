use Rattle.report_core.proofs.BackTraces.{back_traces_go_on}
use Rattle.report_core.proofs.laws.a_trace_back_goes_on.Goals as goal

pub returns : goal.returns
returns c = back_traces_go_on
