use Rattle.std.proofs.Common.{◌≡◌, take}
use Rattle.trace_core.specs.Trails.{pairs_of}
use Rattle.trace_core.proofs.trails.copies_of_pairs.Given as goal

-- those of the steps so far
abbrev pub invariant-loop-step : goal.invariant-loop-step
invariant-loop-step l = l.pairs.items ≡ pairs_of (take l.step-index l.steps)
