use Rattle.std.proofs.Common.{take}
use Rattle.report_core.specs.Leaving.{StandsUnder}
use Rattle.report_core.specs.Sources.{AddsToList, ByOne}
use Rattle.report_core.proofs.relating.places_under_each.Given as goal

-- those of the pairs so far
abbrev pub invariant-loop-pair : goal.invariant-loop-pair
invariant-loop-pair l = AddsToList l.initial.places.items l.places.items (ByOne (take l.pair-index l.pairs) (StandsUnder l.index))
