use Rattle.gap_core.proofs.BatchSteps.{HasBatches}
use Rattle.gap_core.proofs.batches.batches_of.Given as goal

-- the sites of lower numbers are done
abbrev pub invariant-loop-number : goal.invariant-loop-number
invariant-loop-number l = HasBatches l.site l.number l.batches.items
