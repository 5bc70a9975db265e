use Rattle.trace_core.specs.Chains.{sites_at}
use Rattle.gap_core.specs.Adding.{AddsTo}
use Rattle.gap_core.specs.LineEvents.{Holds, SiteDoes}
use Rattle.gap_core.proofs.Additions.{Before}
use Rattle.gap_core.proofs.event_places.places_of.Given as goal

-- those of the sites so far
abbrev pub invariant-loop-at : goal.invariant-loop-at
invariant-loop-at l = AddsTo (λ m. ⊥) (Holds l.kind l.index) (Before l.at (SiteDoes l.kind (sites_at l.sites) l.pairs))
