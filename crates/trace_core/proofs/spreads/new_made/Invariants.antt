use Rattle.trace_core.proofs.AddedPairs.{LeftOf}
use Rattle.trace_core.proofs.spreads.new_made.Given as goal

-- the pairs so far are taken away
abbrev pub invariant-loop-pair : goal.invariant-loop-pair
invariant-loop-pair l = LeftOf l.site l.body l.item l.pair-items l.pairs l.pair-index
