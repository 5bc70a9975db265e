use Rattle.std.proofs.Common.{take}
use Rattle.trace_core.specs.Chains.{sites_at}
use Rattle.gap_core.specs.Adding.{AddsToList, ByOne}
use Rattle.gap_core.specs.GapItems.{IsGapBy}
use Rattle.gap_core.proofs.site_gaps.note_site_gaps.Given as goal

-- those of the shipments so far
abbrev pub invariant-loop-places : goal.invariant-loop-places
invariant-loop-places l = AddsToList l.fn.gaps.items l.gaps.items (ByOne (take l.places-index l.places-items) (IsGapBy (sites_at l.sites) l.own l.known l.at))
