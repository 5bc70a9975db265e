use Rattle.std.proofs.Common.{◌≡◌, ◌-◌, ℕ, suc, slice_get}
use Rattle.std.specs.Vec.{vec_len}
use Rattle.trace_core.specs.Places.{or_none}
use Rattle.trace_core.proofs.seen.make_room.Given as goal

-- nothing more is seen
abbrev pub invariant-loop-alloc : goal.invariant-loop-alloc
invariant-loop-alloc l = (j : ℕ) → or_none (slice_get l.sites.items j) ≡ or_none (slice_get l.initial.sites.items j)

-- how many sites come yet
abbrev pub decreases-loop-alloc : goal.decreases-loop-alloc
decreases-loop-alloc l = suc l.site - vec_len l.sites
