use Rattle.event_json.proofs.Listed.{first_fault as the_law}
use Rattle.event_json.proofs.laws.first_fault_is_told.Goals as goal

pub returns : goal.returns
returns c = the_law
