use Rattle.gap_core.specs.Adding.{AddsTo}
use Rattle.gap_core.specs.Batches.{IsOutsideAt, KeepsPlace}
use Rattle.gap_core.proofs.Additions.{Before}
use Rattle.gap_core.proofs.outside.outside_of.Given as goal

-- those of the events so far
abbrev pub invariant-loop-place : goal.invariant-loop-place
invariant-loop-place l = AddsTo (λ m. ⊥) (KeepsPlace l.outside) (Before l.place (IsOutsideAt l.site.events))
