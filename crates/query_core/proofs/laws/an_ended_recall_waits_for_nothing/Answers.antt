use Rattle.query_core.proofs.Ended.{ends_wait_for_nothing}
use Rattle.query_core.proofs.laws.an_ended_recall_waits_for_nothing.Goals as goal

pub returns : goal.returns
returns c = ends_wait_for_nothing
