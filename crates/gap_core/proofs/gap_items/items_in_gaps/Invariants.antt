use Rattle.std.proofs.Common.{[]}
use Rattle.trace_core.specs.Chains.{sites_at}
use Rattle.gap_core.specs.Adding.{AddsToList}
use Rattle.gap_core.specs.GapItems.{IsGapAt}
use Rattle.gap_core.proofs.Additions.{Before}
use Rattle.gap_core.proofs.gap_items.items_in_gaps.Given as goal

-- those of the sites so far
abbrev pub invariant-loop-at : goal.invariant-loop-at
invariant-loop-at l = AddsToList [] l.gaps.items (Before l.at (IsGapAt (sites_at l.sites)))
