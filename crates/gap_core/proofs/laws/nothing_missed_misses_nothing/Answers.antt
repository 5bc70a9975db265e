use Rattle.gap_core.proofs.MissedReach.{nothing_missed}
use Rattle.gap_core.proofs.laws.nothing_missed_misses_nothing.Goals as goal

pub returns : goal.returns
returns c = nothing_missed
