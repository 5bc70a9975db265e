use Rattle.frame_core.proofs.Placing.{ListsBefore}
use Rattle.frame_core.proofs.places.Places.of.Given as goal

abbrev pub invariant-loop-number : goal.invariant-loop-number
invariant-loop-number l = ListsBefore l.fn.rows.entries l.number-iterator l.places
