use Rattle.std.proofs.Common.{[], take}
use Rattle.gap_core.specs.Adding.{ByOne, NotesThose}
use Rattle.gap_core.specs.Shipments.{IsShippedOnce}
use Rattle.gap_core.proofs.shipments.shipped_items.Given as goal

-- those of the events at the places so far
abbrev pub invariant-loop-place : goal.invariant-loop-place
invariant-loop-place l = NotesThose (ByOne (take l.place-index l.places) (IsShippedOnce l.site.events)) [] l.items
