use Rattle.report_core.proofs.BackTraces.{pairs_have_sources}
use Rattle.report_core.proofs.laws.pairs_of_a_trace_back_have_sources.Goals as goal

pub returns : goal.returns
returns c = pairs_have_sources
