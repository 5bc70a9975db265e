use Rattle.std.proofs.Common.{[], take}
use Rattle.gap_core.specs.Adding.{ByOne, NotesThose}
use Rattle.gap_core.specs.Touched.{IsItemAt}
use Rattle.gap_core.proofs.touched.items_at.Given as goal

-- those of the pairs so far
abbrev pub invariant-loop-pair : goal.invariant-loop-pair
invariant-loop-pair l = NotesThose (ByOne (take l.pair-index l.pairs) (IsItemAt l.site.me)) [] l.items
