use Rattle.trace_core.proofs.Standings.{adding_members}
use Rattle.trace_core.proofs.laws.adding_keeps_all.Goals as goal

pub returns : goal.returns
returns c = adding_members
