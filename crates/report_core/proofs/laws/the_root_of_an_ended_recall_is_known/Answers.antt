use Rattle.report_core.proofs.EndedTraces.{ended_roots_are_known}
use Rattle.report_core.proofs.laws.the_root_of_an_ended_recall_is_known.Goals as goal

pub returns : goal.returns
returns c = ended_roots_are_known
