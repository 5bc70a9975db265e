use Rattle.world_core.proofs.EndedRecalls.{runs_come_out, runs_from_the_start_come_out}
use Rattle.world_core.proofs.laws.the_headline.Goals as goal

pub returns : goal.returns
returns c = record { runs = runs_come_out; start = runs_from_the_start_come_out }
