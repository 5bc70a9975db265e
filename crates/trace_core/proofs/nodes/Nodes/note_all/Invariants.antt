use Rattle.std.proofs.Common.{take}
use Rattle.trace_core.specs.Nodes.{NotesNodes}
use Rattle.trace_core.proofs.nodes.Nodes.note_all.Given as goal

-- the nodes so far are noted
abbrev pub invariant-loop-node : goal.invariant-loop-node
invariant-loop-node l = NotesNodes l.initial.self l.self (take l.node-index l.nodes)
