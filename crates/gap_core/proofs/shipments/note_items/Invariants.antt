use Rattle.std.proofs.Common.{◌≡◌, take}
use Rattle.gap_core.specs.Adding.{ByOne, NotesThose}
use Rattle.gap_core.proofs.shipments.note_items.Given as goal

-- the items so far
abbrev pub invariant-loop-item : goal.invariant-loop-item
invariant-loop-item l = NotesThose (ByOne (take l.item-index l.some) (λ y z. y ≡ z)) l.fn.items l.items
