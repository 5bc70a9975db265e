use Rattle.std.proofs.Common.{◌≡◌, map}
use Rattle.folder_commands.specs.Inputs.{input_of}
use Rattle.command_line.specs.Plans.{planned_input}
use Rattle.command_line.proofs.plan_commands.given_inputs.Given as goal

-- those so far
abbrev pub invariant-loop-input : goal.invariant-loop-input
invariant-loop-input l = map input_of l.all.items ≡ map (planned_input l.task) l.yielded
