use Rattle.std.proofs.Common.{Some, take}
use Rattle.std.specs.List.{AllZip}
use Rattle.trace_core.specs.Trails.{IsPlaceOf}
use Rattle.trace_core.proofs.trails.places_at.Given as goal

-- those of the pairs so far
abbrev pub invariant-loop-pair : goal.invariant-loop-pair
invariant-loop-pair l = AllZip (λ p place. IsPlaceOf l.steps p (Some place)) (take l.pair-index l.pairs) l.places.items
