use Rattle.trace_core.specs.Chains.{sites_at}
use Rattle.gap_core.specs.Adding.{AddsTo}
use Rattle.gap_core.specs.Sources.{IsOwnAt, Keeps}
use Rattle.gap_core.proofs.Additions.{Before}
use Rattle.gap_core.proofs.searches.own_packings.Given as goal

-- those of the sites so far
abbrev pub invariant-loop-at : goal.invariant-loop-at
invariant-loop-at l = AddsTo (λ m. ⊥) (Keeps l.index) (Before l.at (IsOwnAt (sites_at l.sites)))
