use Rattle.std.proofs.Common.{◌≡◌, length, take}
use Rattle.trace_core.proofs.sendings.Sent.truncate.Given as goal

-- the first ones stay
abbrev pub invariant-loop-self : goal.invariant-loop-self
invariant-loop-self l = take l.kept l.self ≡ take l.kept l.initial.self

-- how many are left
abbrev pub decreases-loop-self : goal.decreases-loop-self
decreases-loop-self l = length l.self
