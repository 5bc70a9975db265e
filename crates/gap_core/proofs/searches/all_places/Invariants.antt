use Rattle.std.proofs.Common.{◌↔◌, ◌<◌, ℕ}
use Rattle.std.specs.List.{Contains}
use Rattle.gap_core.proofs.searches.all_places.Given as goal

-- the places so far
abbrev pub invariant-loop-place : goal.invariant-loop-place
invariant-loop-place l = (k : ℕ) → Contains l.places.items k ↔ (k < l.place)
