use Rattle.query_core.proofs.Ended.{parents_wait}
use Rattle.query_core.proofs.laws.a_parent_waits.Goals as goal

pub returns : goal.returns
returns c = parents_wait
