use Rattle.report_core.proofs.BackTraces.{traces_are_converse}
use Rattle.report_core.proofs.laws.traces_are_converse.Goals as goal

pub returns : goal.returns
returns c = traces_are_converse
