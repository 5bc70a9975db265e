use Rattle.gap_core.specs.Adding.{AddsToList, ByOneAt}
use Rattle.gap_core.specs.Used.{IsLeftOf}
use Rattle.gap_core.proofs.Additions.{Before}
use Rattle.gap_core.proofs.used.note_untaken.Given as goal

-- those of the items so far
abbrev pub invariant-loop-place : goal.invariant-loop-place
invariant-loop-place l = AddsToList l.fn.used.items l.used.items (Before l.place (ByOneAt l.inside (IsLeftOf l.site l.container l.inputs)))
