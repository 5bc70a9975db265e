use Rattle.std.specs.Ordering.{nat_cmp}
use Rattle.frame_core.specs.Tables.{as_map}
use Rattle.frame_core.proofs.Placing.{IsLeft}
use Rattle.frame_core.proofs.places.first_of.Given as goal

abbrev pub invariant-loop-number : goal.invariant-loop-number
invariant-loop-number l = IsLeft (as_map nat_cmp l.fn.rows) l.fn.dest l.fn.from l.number-iterator
