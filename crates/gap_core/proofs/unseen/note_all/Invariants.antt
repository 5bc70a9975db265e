use Rattle.gap_core.specs.Adding.{AddsToList, ByOneAt}
use Rattle.gap_core.specs.Unseen.{IsUnseenOf}
use Rattle.gap_core.proofs.Additions.{Before}
use Rattle.gap_core.proofs.unseen.note_all.Given as goal

-- those of the items so far
abbrev pub invariant-loop-place : goal.invariant-loop-place
invariant-loop-place l = AddsToList l.fn.items.items l.items.items (Before l.place (ByOneAt l.sent (IsUnseenOf l.from l.to)))
