use Rattle.std.proofs.Common.{◌≡◌, ◌<◌, ◌+◌, ℕ, get_or}
use Rattle.std.specs.declared.cmp.Ordering.TheVariants.{Less}
use Rattle.trace_core.proofs.ordered_keys.is_ascending.Given as goal

-- each key before the place is below the next
abbrev pub invariant-loop-place : goal.invariant-loop-place
invariant-loop-place g l = (k : ℕ) (d : _) → k + 1 < l.place → g.K.Ord.cmp (get_or l.keys k d) (get_or l.keys (k + 1) d) ≡ Less
