use Rattle.std.proofs.Common.{List, ℕ, ◌↔◌}
use Rattle.std.specs.List.{Contains}
use Rattle.trace_core.specs.Found.{items_at}
use Rattle.trace_core.proofs.FoundSteps.{HasNumberBelow}
use Rattle.trace_core.proofs.found_items.items_in_order.Given as goal

-- the items of the marked numbers so far
abbrev pub invariant-loop-number : goal.invariant-loop-number
invariant-loop-number l = (i : List ℕ) → Contains (items_at l.items.items) i ↔ HasNumberBelow l.book l.numbers l.number i
