use Rattle.trace_core.proofs.AddingLaws.{first_taken_is_told}
use Rattle.trace_core.proofs.laws.first_taken_is_told.Goals as goal

pub returns : goal.returns
returns c = first_taken_is_told
