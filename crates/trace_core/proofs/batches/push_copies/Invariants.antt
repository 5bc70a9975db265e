use Rattle.std.proofs.Common.{◌↔◌, List, ℕ, take}
use mathlib.Core.Logic.{◌⊎◌}
use Rattle.std.specs.List.{Contains}
use Rattle.trace_core.specs.Found.{items_at}
use Rattle.trace_core.proofs.batches.push_copies.Given as goal

-- the items so far
abbrev pub invariant-loop-item : goal.invariant-loop-item
invariant-loop-item l = (i : List ℕ) → Contains l.found.items i ↔ (Contains l.initial.found.items i ⊎ Contains (items_at (take l.item-index l.items)) i)
