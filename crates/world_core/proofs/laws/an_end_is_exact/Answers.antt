use Rattle.world_core.proofs.EndedRecalls.{quarantines_ascend, ended_is_exact}
use Rattle.world_core.proofs.laws.an_end_is_exact.Goals as goal

pub returns : goal.returns
returns c = record { ascending = quarantines_ascend; exact = ended_is_exact }
