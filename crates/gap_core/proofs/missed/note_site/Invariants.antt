use Rattle.std.proofs.Common.{take}
use Rattle.trace_core.specs.Chains.{sites_at}
use Rattle.gap_core.specs.Adding.{AddsToList, ByOne}
use Rattle.gap_core.specs.Missed.{IsMissedBy}
use Rattle.gap_core.proofs.missed.note_site.Given as goal

-- those of the shipments so far
abbrev pub invariant-loop-places : goal.invariant-loop-places
invariant-loop-places l = AddsToList l.fn.missed.items l.missed.items (ByOne (take l.places-index l.places-items) (IsMissedBy (sites_at l.sites) l.own l.known l.at))
