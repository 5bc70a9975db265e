use Rattle.std.specs.List.{Contains}
use Rattle.trace_core.specs.Found.{items_at}
use Rattle.trace_core.proofs.FoundSteps.{HasThisNumber}
use Rattle.trace_core.proofs.Gathered.{Gathers}
use Rattle.trace_core.proofs.found_items.items_in_turn.Given as goal

-- the items of the numbers so far
abbrev pub invariant-loop-number : goal.invariant-loop-number
invariant-loop-number l = Gathers (HasThisNumber l.book) l.fn.numbers.keys l.number-iterator (λ i. ⊥) (Contains (items_at l.items.items))
