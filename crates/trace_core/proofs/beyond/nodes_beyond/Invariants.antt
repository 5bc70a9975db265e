use Rattle.std.proofs.Common.{◌≡◌, ◌-◌, ◌^◌, ℕ, List, Some, slice_get}
use Rattle.trace_core.specs.Beyond.{HasSearched}
use Rattle.trace_core.specs.Numbers.{numbered}
use Rattle.trace_core.proofs.beyond.nodes_beyond.Given as goal

abbrev pub invariant-loop-place : goal.invariant-loop-place
invariant-loop-place l = (i : List ℕ) → slice_get (numbered l.site.events) l.number ≡ Some i → HasSearched l.site i l.stop l.fn.seen l.seen l.nodes l.place

-- how many places may be left
abbrev pub decreases-loop-place : goal.decreases-loop-place
decreases-loop-place l = 2 ^ 64 - l.place
