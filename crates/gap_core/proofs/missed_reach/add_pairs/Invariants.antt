use Rattle.std.proofs.Common.{length}
use Rattle.gap_core.proofs.MissedReach.{AreParted}
use Rattle.gap_core.proofs.missed_reach.add_pairs.Given as goal

-- the last ones so far are in the set
abbrev pub invariant-loop-pair : goal.invariant-loop-pair
invariant-loop-pair l = AreParted l.fn.set l.fn.pairs.items l.set l.rest.items

abbrev pub decreases-loop-pair : goal.decreases-loop-pair
decreases-loop-pair l = length l.rest.items
