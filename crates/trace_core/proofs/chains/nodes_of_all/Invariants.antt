use Rattle.std.proofs.Common.{◌↔◌, take}
use Rattle.std.specs.List.{Contains}
use Rattle.trace_core.specs.declared.nodes.Node.{Node}
use Rattle.trace_core.specs.Chains.{sites_at}
use Rattle.trace_core.specs.Nodes.{StandsForOne}
use Rattle.trace_core.proofs.chains.nodes_of_all.Given as goal

-- the nodes of the pairs so far
abbrev pub invariant-loop-pair : goal.invariant-loop-pair
invariant-loop-pair l = (n : Node) → Contains l.nodes.items n ↔ StandsForOne (sites_at l.sites) (take l.pair-index l.pairs) n
