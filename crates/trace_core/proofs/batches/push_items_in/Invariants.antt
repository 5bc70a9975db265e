use Rattle.std.specs.List.{Contains}
use Rattle.trace_core.proofs.FoundSteps.{HasNumbered}
use Rattle.trace_core.proofs.Gathered.{Gathers}
use Rattle.trace_core.proofs.batches.push_items_in.Given as goal

-- the items of the batches so far
abbrev pub invariant-loop-numbers : goal.invariant-loop-numbers
invariant-loop-numbers l = Gathers (HasNumbered l.book) l.fn.batches.entries l.numbers-iterator (Contains l.initial.found.items) (Contains l.found.items)
