use Rattle.std.proofs.Common.{◌↔◌, take}
use mathlib.Core.Logic.{◌⊎◌}
use Rattle.std.specs.List.{Contains}
use Rattle.trace_core.specs.declared.pairs.Pair.{Pair}
use Rattle.trace_core.proofs.chains.push_roots.Given as goal

-- the roots so far
abbrev pub invariant-loop-root : goal.invariant-loop-root
invariant-loop-root l = (p : Pair) → Contains l.pairs.items p ↔ (Contains l.initial.pairs.items p ⊎ Contains (take l.root-index l.roots) p)
