use Rattle.trace_core.proofs.AddingLaws.{adding_keeps_fresh}
use Rattle.trace_core.proofs.laws.adding_keeps_fresh.Goals as goal

pub returns : goal.returns
returns c = adding_keeps_fresh
