use Rattle.std.proofs.Common.{◌≡◌, ◌≤◌, ◌+◌, ◌-◌, ◌^◌, ◌↔◌, ℕ, List, None, length, take}
use mathlib.Core.Logic.{◌⊎◌}
use Rattle.std.specs.List.{Contains}
use Rattle.trace_core.specs.Numbers.{number_in, numbered}
use Rattle.trace_core.proofs.spreads.unknown_items.Given as goal

-- those of the items so far, each looked at once
abbrev pub invariant-loop-item : goal.invariant-loop-item
invariant-loop-item l = record {
  unknown : (i : List ℕ) → Contains l.found.items i ↔ (Contains (take l.item-index l.items) i × (number_in (numbered l.book) i ≡ None));
  least : (l.initial.looks + length l.found.items ≤ l.looks) ⊎ (2 ^ 64 - 1 ≤ l.looks);
  most : l.looks ≤ l.initial.looks + l.item-index;
}
