use Rattle.trace_core.proofs.Standings.{adding_appends_some}
use Rattle.trace_core.proofs.laws.adding_appends.Goals as goal

pub returns : goal.returns
returns c = adding_appends_some
