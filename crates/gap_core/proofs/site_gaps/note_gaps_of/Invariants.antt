use Rattle.trace_core.specs.Chains.{sites_at}
use Rattle.gap_core.specs.Adding.{AddsToList}
use Rattle.gap_core.specs.GapItems.{IsGapOfAt}
use Rattle.gap_core.proofs.Additions.{Before}
use Rattle.gap_core.proofs.site_gaps.note_gaps_of.Given as goal

-- those of the containers so far
abbrev pub invariant-loop-place : goal.invariant-loop-place
invariant-loop-place l = AddsToList l.fn.gaps.items l.gaps.items (Before l.place (IsGapOfAt (sites_at l.sites) l.at l.sent l.told))
