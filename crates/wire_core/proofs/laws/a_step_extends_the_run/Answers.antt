use Rattle.wire_core.proofs.Continuing.{changes_are_steps, steps_extend_the_run}
use Rattle.wire_core.proofs.laws.a_step_extends_the_run.Goals as goal

pub returns : goal.returns
returns c = record { changes = changes_are_steps; run = steps_extend_the_run }
