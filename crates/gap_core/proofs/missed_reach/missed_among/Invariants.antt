use Rattle.std.proofs.Common.{[], take}
use Rattle.gap_core.specs.Adding.{AddsToList, ByOne}
use Rattle.gap_core.specs.Missed.{IsPairFound}
use Rattle.gap_core.proofs.missed_reach.missed_among.Given as goal

-- those of the pairs so far
abbrev pub invariant-loop-pair : goal.invariant-loop-pair
invariant-loop-pair l = AddsToList [] l.found.items (ByOne (take l.pair-index l.pairs) (IsPairFound l.missed))
