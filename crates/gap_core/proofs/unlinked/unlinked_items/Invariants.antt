use Rattle.std.proofs.Common.{[]}
use Rattle.trace_core.specs.Chains.{sites_at}
use Rattle.gap_core.specs.Adding.{AddsToList}
use Rattle.gap_core.specs.Unlinked.{IsUnlinkedAt}
use Rattle.gap_core.proofs.Additions.{Before}
use Rattle.gap_core.proofs.unlinked.unlinked_items.Given as goal

-- those of the sites so far
abbrev pub invariant-loop-at : goal.invariant-loop-at
invariant-loop-at l = AddsToList [] l.found.items (Before l.at (IsUnlinkedAt (sites_at l.sites)))
