use Rattle.trace_core.specs.Chains.{sites_at}
use Rattle.gap_core.specs.Adding.{AddsToList, ByOneAt}
use Rattle.gap_core.specs.Unlinked.{IsUnlinkedIn}
use Rattle.gap_core.proofs.Additions.{Before}
use Rattle.gap_core.proofs.unlinked.note_containers.Given as goal

-- those of the containers so far
abbrev pub invariant-loop-place : goal.invariant-loop-place
invariant-loop-place l = AddsToList l.fn.found.items l.found.items (Before l.place (ByOneAt l.sent (IsUnlinkedIn (sites_at l.sites) l.at)))
