use Rattle.gap_core.specs.Adding.{AddsToList, ByOneAt}
use Rattle.gap_core.specs.Untold.{IsUntoldOf}
use Rattle.gap_core.proofs.Additions.{Before}
use Rattle.gap_core.proofs.untold.note_items.Given as goal

-- those of the items so far
abbrev pub invariant-loop-place : goal.invariant-loop-place
invariant-loop-place l = AddsToList l.fn.found.items l.found.items (Before l.place (ByOneAt l.sent (IsUntoldOf l.site l.text l.told l.reached)))
