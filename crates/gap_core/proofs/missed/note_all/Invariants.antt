use Rattle.trace_core.specs.Chains.{sites_at}
use Rattle.gap_core.specs.Adding.{AddsToList}
use Rattle.gap_core.specs.Missed.{IsMissedOfAt}
use Rattle.gap_core.proofs.Additions.{Before}
use Rattle.gap_core.proofs.missed.note_all.Given as goal

-- those of the items so far
abbrev pub invariant-loop-place : goal.invariant-loop-place
invariant-loop-place l = AddsToList l.fn.missed.items l.missed.items (Before l.place (IsMissedOfAt (sites_at l.sites) l.at l.sent l.told))
