use Rattle.script_core.proofs.OneAnswer.{one_answer}
use Rattle.script_core.proofs.laws.lines_have_one_answer.Goals as goal

pub returns : goal.returns
returns c = one_answer
