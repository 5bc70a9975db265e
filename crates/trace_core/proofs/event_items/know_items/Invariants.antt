use Rattle.std.proofs.Common.{take}
use Rattle.trace_core.specs.Indexes.{KnowsItems}
use Rattle.trace_core.proofs.event_items.know_items.Given as goal

-- the items so far have numbers
abbrev pub invariant-loop-item : goal.invariant-loop-item
invariant-loop-item l = KnowsItems l.initial.known l.known (take l.item-index l.items)
