use Rattle.std.proofs.Common.{◌↔◌, take}
use Rattle.std.specs.List.{Contains}
use Rattle.trace_core.specs.declared.nodes.Node.{Node}
use Rattle.trace_core.specs.Nodes.{IsKnownNode}
use Rattle.trace_core.proofs.spreads.nodes_of.Given as goal

-- the nodes of the items so far
abbrev pub invariant-loop-item : goal.invariant-loop-item
invariant-loop-item l = (n : Node) → Contains l.nodes.items n ↔ IsKnownNode l.site (take l.item-index l.items) n
