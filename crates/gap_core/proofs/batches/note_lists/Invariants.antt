use Rattle.std.specs.List.{Contains}
use Rattle.trace_core.proofs.Gathered.{Gathers}
use Rattle.gap_core.proofs.BatchSteps.{IsListOf}
use Rattle.gap_core.proofs.batches.note_lists.Given as goal

-- those of the map so far
abbrev pub invariant-loop-text : goal.invariant-loop-text
invariant-loop-text l = Gathers IsListOf l.outside.entries l.text-iterator (Contains l.fn.batches.items) (Contains l.batches.items)
