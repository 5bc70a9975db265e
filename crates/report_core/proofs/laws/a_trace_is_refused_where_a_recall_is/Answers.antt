use Rattle.report_core.proofs.EndedTraces.{refused_alike}
use Rattle.report_core.proofs.laws.a_trace_is_refused_where_a_recall_is.Goals as goal

pub returns : goal.returns
returns c = refused_alike
