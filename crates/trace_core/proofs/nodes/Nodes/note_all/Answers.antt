use Rattle.std.proofs.Common.{arith}
use Rattle.trace_core.proofs.NodeSteps.{one_node}
use Rattle.trace_core.proofs.nodes.Nodes.note_all.Goals as goal

pub loop-node-preserved : goal.loop-node-preserved
loop-node-preserved c = one_node c.args.self.now c.loop-node.self c.note.new.self c.args.nodes.now c.loop-node.node-index c.node-item.result (omega arith) c.node-item.is c.loop-node.invariant c.in_ok-note.ensures
