use Rattle.std.proofs.Common.{◌↔◌, List, ℕ, take}
use mathlib.Core.Logic.{◌⊎◌}
use Rattle.std.specs.List.{Contains}
use Rattle.trace_core.specs.Sendings.{HasItemOf}
use Rattle.trace_core.proofs.carried.push_items_of.Given as goal

-- the items of the sendings so far
abbrev pub invariant-loop-sending : goal.invariant-loop-sending
invariant-loop-sending l = (i : List ℕ) → Contains l.found.items i ↔ (Contains l.initial.found.items i ⊎ HasItemOf l.book (take l.sending-index l.sendings) i)
