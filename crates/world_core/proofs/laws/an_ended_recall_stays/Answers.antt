use Rattle.world_core.proofs.EndedRecalls.{ended_stays}
use Rattle.world_core.proofs.laws.an_ended_recall_stays.Goals as goal

pub returns : goal.returns
returns c = ended_stays
