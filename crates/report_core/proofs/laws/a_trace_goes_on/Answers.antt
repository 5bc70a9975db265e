use Rattle.report_core.proofs.EndedTraces.{traces_go_on}
use Rattle.report_core.proofs.laws.a_trace_goes_on.Goals as goal

pub returns : goal.returns
returns c = traces_go_on
