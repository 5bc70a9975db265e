-- What there is nothing missed means.
use Rattle.std.specs.Prelude.{List}
use Rattle.trace_core.specs.declared.pairs.Pair.{Pair}
use Rattle.trace_core.specs.Chains.{Related}
use Rattle.trace_core.specs.Gaps.{ReachesAgree, by_known}
use Rattle.trace_core.specs.Relations.{Reaches}
use Rattle.trace_core.specs.Sites.{SiteEvents}
use Rattle.gap_core.specs.Missed.{IsMissedPair}

-- Where no pair that the root reaches is missed, it reaches by all that is known of packings no more pairs than by the sites' own ones, and
-- each of its items left for the same places outside.
abbrev pub NothingMissedMissesNothing : Type 0
NothingMissedMissesNothing =
    (sites : List SiteEvents) (root : Pair) → ((p : Pair) → Reaches (Related sites) root p → IsMissedPair sites p → ⊥) → ReachesAgree by_known sites root
