use Rattle.std.proofs.Common.{◌≡◌, take}
use Rattle.trace_core.proofs.carried.copies_of.Given as goal

-- the items so far
abbrev pub invariant-loop-item : goal.invariant-loop-item
invariant-loop-item l = l.copies.items ≡ take l.item-index l.items
