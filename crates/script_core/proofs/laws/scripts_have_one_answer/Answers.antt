use Rattle.std.specs.Str.Lines.{lines}
use Rattle.script_core.specs.State.{empty}
use Rattle.script_core.proofs.OneAnswer.{one_run}
use Rattle.script_core.proofs.laws.scripts_have_one_answer.Goals as goal

pub returns : goal.returns
returns c = λ script xs ys t u. one_run empty (lines script) xs ys t u
