use Rattle.script_core.proofs.OneAnswer.{some_answer}
use Rattle.script_core.proofs.laws.lines_have_an_answer.Goals as goal

pub returns : goal.returns
returns c = some_answer
