use Rattle.gap_core.specs.Adding.{AddsToList}
use Rattle.gap_core.proofs.Additions.{Before}
use Rattle.gap_core.proofs.GapSteps.{IsGapOfChild}
use Rattle.gap_core.proofs.site_gaps.note_gaps.Given as goal

-- those of the items so far
abbrev pub invariant-loop-place : goal.invariant-loop-place
invariant-loop-place l = AddsToList l.fn.gaps.items l.gaps.items (Before l.place (IsGapOfChild l.site l.container l.told l.packed l.packers l.children))
