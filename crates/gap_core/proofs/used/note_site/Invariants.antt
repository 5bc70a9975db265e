use Rattle.trace_core.specs.Chains.{sites_at}
use Rattle.gap_core.specs.Adding.{AddsToList}
use Rattle.gap_core.specs.Used.{IsUsedFirst}
use Rattle.gap_core.proofs.Additions.{Before}
use Rattle.gap_core.proofs.used.note_site.Given as goal

-- those of the transformations so far
abbrev pub invariant-loop-place : goal.invariant-loop-place
invariant-loop-place l = AddsToList l.fn.used.items l.used.items (Before l.place (IsUsedFirst (sites_at l.sites) l.at))
