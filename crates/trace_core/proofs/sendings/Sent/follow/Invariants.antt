use Rattle.std.proofs.Common.{◌-◌, ◌^◌}
use Rattle.trace_core.specs.PutIn.{children_in}
use Rattle.trace_core.proofs.Following.{Following}
use Rattle.trace_core.proofs.sendings.Sent.follow.Given as goal

-- those before the place are followed
abbrev pub invariant-loop-place : goal.invariant-loop-place
invariant-loop-place l = Following (children_in l.packed) l.from l.fn.self l.self l.place

-- how many places come yet
abbrev pub decreases-loop-place : goal.decreases-loop-place
decreases-loop-place l = 2 ^ 64 - l.place
