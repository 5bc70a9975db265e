use Rattle.report_core.proofs.EndedTraces.{ends_are_traced}
use Rattle.report_core.proofs.laws.an_ended_recall_is_traced.Goals as goal

pub returns : goal.returns
returns c = ends_are_traced
