use Rattle.std.proofs.Common.{◌<◌, ◌↔◌}
use Rattle.std.specs.List.{Contains}
use Rattle.trace_core.specs.declared.nodes.Node.{Node}
use Rattle.trace_core.specs.Chains.{sites_at}
use Rattle.trace_core.specs.Nodes.{Stands}
use Rattle.trace_core.proofs.chains.nodes_of.Given as goal

-- the nodes of the sites so far
abbrev pub invariant-loop-number : goal.invariant-loop-number
invariant-loop-number l = (n : Node) → Contains l.nodes.items n ↔ (Stands (sites_at l.sites) n l.pair × (n.site < l.number))
