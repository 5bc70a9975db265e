use Rattle.std.proofs.Common.{◌≡◌, ℕ, ◌<◌, ◌≤◌, Some, length, map, slice_get}
use Rattle.site_core.specs.Records.{Record, IsSound}
use Rattle.world_core.proofs.InPlace.{AreInPlaceTo}
use Rattle.world_core.proofs.forming.first_other.Given as goal

abbrev pub invariant-loop-place : goal.invariant-loop-place
invariant-loop-place l = record {
  right : AreInPlaceTo l.sites l.place (map (λ s. s.now) l.states);
  sound : (p : ℕ) (r : Record) → p < l.place → slice_get (map (λ s. s.now) l.states) p ≡ Some r → IsSound r;
  within : l.place ≤ length l.sites;
}
