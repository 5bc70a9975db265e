use Rattle.script_core.proofs.WorldRuns.{scripts_run_a_world}
use Rattle.script_core.proofs.laws.scripts_run_a_world.Goals as goal

pub returns : goal.returns
returns c = scripts_run_a_world
