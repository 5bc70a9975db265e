use Rattle.report_core.proofs.BackTraces.{trails_are_converse}
use Rattle.report_core.proofs.laws.trails_are_converse.Goals as goal

pub returns : goal.returns
returns c = trails_are_converse
