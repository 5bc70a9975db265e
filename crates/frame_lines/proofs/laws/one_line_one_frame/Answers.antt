use Rattle.frame_lines.proofs.FrameLemmas.{one_line_one_frame}
use Rattle.frame_lines.proofs.laws.one_line_one_frame.Goals as goal

pub returns : goal.returns
returns c = one_line_one_frame
