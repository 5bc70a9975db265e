use Rattle.std.proofs.Common.{◌↔◌, take}
use mathlib.Core.Logic.{◌⊎◌}
use Rattle.std.specs.List.{Contains}
use Rattle.trace_core.specs.declared.pairs.Pair.{Pair}
use Rattle.trace_core.specs.Found.{IsPairOf, items_at}
use Rattle.trace_core.proofs.batches.push_pairs.Given as goal

-- the pairs of the items so far
abbrev pub invariant-loop-item : goal.invariant-loop-item
invariant-loop-item l = (p : Pair) → Contains l.pairs.items p ↔ (Contains l.initial.pairs.items p ⊎ IsPairOf l.at (items_at (take l.item-index l.items)) p)
