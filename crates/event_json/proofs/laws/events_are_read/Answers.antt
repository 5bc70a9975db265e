use Rattle.event_json.proofs.Listed.{events_read as the_law}
use Rattle.event_json.proofs.laws.events_are_read.Goals as goal

pub returns : goal.returns
returns c = the_law
