use Rattle.std.specs.List.{Contains}
use Rattle.trace_core.specs.Chains.{sites_at}
use Rattle.trace_core.specs.Found.{Gives}
use Rattle.trace_core.proofs.Gathered.{Gathers}
use Rattle.trace_core.proofs.batches.pairs_in.Given as goal

-- the pairs of the batches so far
abbrev pub invariant-loop-batch : goal.invariant-loop-batch
invariant-loop-batch l = Gathers (Gives (sites_at l.sites)) l.fn.batches.entries l.batch-iterator (λ p. ⊥) (Contains l.pairs.items)
