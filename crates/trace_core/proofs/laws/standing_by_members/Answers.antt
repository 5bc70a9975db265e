use Rattle.trace_core.proofs.Standings.{standing-same_members}
use Rattle.trace_core.proofs.laws.standing_by_members.Goals as goal

pub returns : goal.returns
returns c = λ xs ys same e. standing-same_members xs ys e same
