use Rattle.std.proofs.Common.{[], take}
use Rattle.gap_core.specs.Adding.{AddsToList, ByOne}
use Rattle.gap_core.specs.LineEvents.{IsPairOf}
use Rattle.gap_core.proofs.line_events.pairs_of.Given as goal

-- those of the lines so far
abbrev pub invariant-loop-line : goal.invariant-loop-line
invariant-loop-line l = AddsToList [] l.pairs.items (ByOne (take l.line-index l.lines) (IsPairOf l.kind))
