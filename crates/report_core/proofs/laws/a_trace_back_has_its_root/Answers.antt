use Rattle.report_core.proofs.BackTraces.{back_traces_have_roots}
use Rattle.report_core.proofs.laws.a_trace_back_has_its_root.Goals as goal

pub returns : goal.returns
returns c = back_traces_have_roots
