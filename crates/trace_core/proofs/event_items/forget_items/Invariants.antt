use Rattle.std.proofs.Common.{take}
use Rattle.trace_core.specs.Indexes.{ForgetsPlace}
use Rattle.trace_core.specs.PairTests.{lists}
use Rattle.trace_core.proofs.event_items.forget_items.Given as goal

-- the place is taken away from the items so far
abbrev pub invariant-loop-item : goal.invariant-loop-item
invariant-loop-item l = ForgetsPlace l.initial.known l.known l.place (lists (take l.item-index l.items))
