use Rattle.std.proofs.Common.{◌-◌, length}
use Rattle.gap_core.proofs.LineSteps.{LinesTo, none_item}
use Rattle.gap_core.proofs.lines.lines_of.Given as goal

-- those of the items so far
abbrev pub invariant-loop-start : goal.invariant-loop-start
invariant-loop-start l = LinesTo l.items none_item l.lines.items l.start

-- how many items come yet
abbrev pub decreases-loop-start : goal.decreases-loop-start
decreases-loop-start l = length l.items - l.start
