-- What a recall of a root misses.
use Rattle.std.specs.Prelude.{◌↔◌, List}
use Rattle.trace_core.specs.declared.pairs.Pair.{Pair}
use Rattle.trace_core.specs.Chains.{Related}
use Rattle.trace_core.specs.Gaps.{WideRelated}
use Rattle.trace_core.specs.Pairs.{pair_cmp}
use Rattle.trace_core.specs.Relations.{Reaches}
use Rattle.trace_core.specs.Searches.{IsFound}
use Rattle.trace_core.specs.Sites.{SiteEvents}
use Rattle.gap_core.specs.declared.untold.Reached.{Reached}

-- the root reaches the pair by all that is known of packings, and not by the sites' own ones
abbrev pub IsMissedFrom : List SiteEvents → Pair → Pair → Type 0
IsMissedFrom sites root p = Reaches (WideRelated sites) root p × (Reaches (Related sites) root p → ⊥)

-- just what the root reaches, both ways
pub record AreReached (sites : List SiteEvents) (root : Pair) (reached : Reached) : Type 0 where
  pub wide : (p : Pair) → IsFound pair_cmp reached.wide p ↔ Reaches (WideRelated sites) root p
  pub told : (p : Pair) → IsFound pair_cmp reached.told p ↔ Reaches (Related sites) root p

-- the one way, and it isn't told
abbrev pub IsBeyond : Reached → Pair → Type 0
IsBeyond reached p = IsFound pair_cmp reached.wide p × (IsFound pair_cmp reached.told p → ⊥)
