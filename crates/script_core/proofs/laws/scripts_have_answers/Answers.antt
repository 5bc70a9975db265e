use Rattle.std.specs.Str.Lines.{lines}
use Rattle.script_core.specs.State.{empty}
use Rattle.script_core.proofs.OneAnswer.{some_run}
use Rattle.script_core.proofs.laws.scripts_have_answers.Goals as goal

pub returns : goal.returns
returns c = λ script. some_run empty (lines script)
