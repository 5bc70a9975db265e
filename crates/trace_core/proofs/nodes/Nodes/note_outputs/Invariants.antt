use Rattle.std.proofs.Common.{take}
use Rattle.trace_core.specs.Nodes.{NotesNodes, made_nodes}
use Rattle.trace_core.proofs.nodes.Nodes.note_outputs.Given as goal

-- the items so far
abbrev pub invariant-loop-item : goal.invariant-loop-item
invariant-loop-item l = NotesNodes l.initial.self l.self (made_nodes l.me l.site (take l.item-index l.items))
