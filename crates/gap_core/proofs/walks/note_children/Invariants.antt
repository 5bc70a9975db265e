use Rattle.std.proofs.Common.{◌≡◌, Some, slice_get, take}
use Rattle.trace_core.specs.Numbers.{numbered}
use Rattle.gap_core.specs.Adding.{ByOne, NotesThose}
use Rattle.gap_core.proofs.walks.note_children.Given as goal

-- the items of the numbers so far
abbrev pub invariant-loop-number : goal.invariant-loop-number
invariant-loop-number l = NotesThose (ByOne (take l.number-index l.number-items) (λ n c. slice_get (numbered l.site.events) n ≡ Some c)) l.fn.found l.found
