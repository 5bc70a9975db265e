use Rattle.std.proofs.Common.{◌↔◌, take}
use mathlib.Core.Logic.{◌⊎◌}
use Rattle.std.specs.List.{Contains}
use Rattle.trace_core.specs.declared.nodes.Node.{Node}
use Rattle.trace_core.proofs.chains.push_all.Given as goal

-- the nodes so far
abbrev pub invariant-loop-node : goal.invariant-loop-node
invariant-loop-node l = (n : Node) → Contains l.nodes.items n ↔ (Contains l.initial.nodes.items n ⊎ Contains (take l.node-index l.more) n)
