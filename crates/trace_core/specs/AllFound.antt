-- All that chains of a relation find from a root.
use Rattle.std.specs.Prelude.{◌↔◌, Some, Contains}
use Rattle.std.specs.List.{AllZip}
use Rattle.trace_core.specs.declared.pairs.Pair.{Pair}
use Rattle.trace_core.specs.declared.trails.FoundTrails.{FoundTrails}
use Rattle.trace_core.specs.Pairs.{IsStrictlyAscending}
use Rattle.trace_core.specs.Relations.{Reaches}
use Rattle.trace_core.specs.Trails.{TellsTrailBy}

-- each pair that is reached, by site and item and each once, and to each a shortest chain
pub record AreAllFound (R : Pair → Pair → Type 0) (root : Pair) (found : FoundTrails) : Type 0 where
  pub ascending : IsStrictlyAscending found.pairs
  pub reached : (p : Pair) → Contains found.pairs p ↔ Reaches R root p
  pub trails : AllZip (λ p trail. TellsTrailBy R root p (Some trail)) found.pairs found.trails
