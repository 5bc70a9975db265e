use Rattle.gap_core.proofs.LineSteps.{RunsTo}
use Rattle.gap_core.proofs.lines.end_of_run.Given as goal

-- those before the place are of one line
abbrev pub invariant-loop-end : goal.invariant-loop-end
invariant-loop-end l = RunsTo l.items l.start l.end
