use Rattle.std.proofs.Common.{take}
use Rattle.gap_core.specs.Adding.{ByOne, NotesThose}
use Rattle.gap_core.specs.Used.{IsTakenOnce}
use Rattle.gap_core.proofs.inputs.note_parts.Given as goal

-- those of the events at the places so far
abbrev pub invariant-loop-place : goal.invariant-loop-place
invariant-loop-place l = NotesThose (ByOne (take l.place-index l.places) (IsTakenOnce l.site.events)) l.fn.inputs l.inputs
