use Rattle.frame_lines.proofs.FrameLemmas.{lines_of_other_chains}
use Rattle.frame_lines.proofs.laws.lines_of_other_chains.Goals as goal

pub returns : goal.returns
returns c = lines_of_other_chains
