use Rattle.std.proofs.Common.{take}
use Rattle.trace_core.specs.Indexes.{NotesItems}
use Rattle.trace_core.proofs.event_items.note_inputs.Given as goal

-- the place is noted for the inputs so far
abbrev pub invariant-loop-item : goal.invariant-loop-item
invariant-loop-item l = NotesItems l.initial.known l.known l.place (take l.item-index l.items) (take l.item-index l.items)
