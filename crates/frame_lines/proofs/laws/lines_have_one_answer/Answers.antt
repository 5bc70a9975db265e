use Rattle.frame_lines.proofs.FrameLemmas.{lines_have_one_answer}
use Rattle.frame_lines.proofs.laws.lines_have_one_answer.Goals as goal

pub returns : goal.returns
returns c = lines_have_one_answer
