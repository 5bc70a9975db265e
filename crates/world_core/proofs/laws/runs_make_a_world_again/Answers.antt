use Rattle.world_core.proofs.Pins.{runs_make_a_world_again}
use Rattle.world_core.proofs.laws.runs_make_a_world_again.Goals as goal

pub returns : goal.returns
returns c = runs_make_a_world_again
