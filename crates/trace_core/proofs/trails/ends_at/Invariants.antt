use Rattle.std.proofs.Common.{take}
use Rattle.std.specs.List.{AllZip}
use Rattle.trace_core.specs.Trails.{IsPlaceOf}
use Rattle.trace_core.proofs.trails.ends_at.Given as goal

-- those of the pairs so far
abbrev pub invariant-loop-pair : goal.invariant-loop-pair
invariant-loop-pair l = AllZip (IsPlaceOf l.steps) (take l.pair-index l.pairs) l.ends.items
