use Rattle.wire_core.proofs.Out.{runs_of_seats_come_out}
use Rattle.wire_core.proofs.laws.runs_of_seats_come_out.Goals as goal

pub returns : goal.returns
returns c = runs_of_seats_come_out
