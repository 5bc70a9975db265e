use Rattle.trace_core.proofs.PairSources.{related_pairs_come_from_events}
use Rattle.trace_core.proofs.laws.related_pairs_come_from_events.Goals as goal

pub returns : goal.returns
returns c = related_pairs_come_from_events
