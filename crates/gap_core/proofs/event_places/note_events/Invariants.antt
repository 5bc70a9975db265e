use Rattle.trace_core.specs.Chains.{sites_at}
use Rattle.gap_core.specs.Adding.{AddsTo}
use Rattle.gap_core.specs.LineEvents.{EventDoes, Holds}
use Rattle.gap_core.proofs.Additions.{Before}
use Rattle.gap_core.proofs.event_places.note_events.Given as goal

-- those so far
abbrev pub invariant-loop-place : goal.invariant-loop-place
invariant-loop-place l = AddsTo (Holds l.kind l.fn.index) (Holds l.kind l.index) (Before l.place (EventDoes l.kind (sites_at l.sites) l.site l.wanted))
