use Rattle.event_json.proofs.Listed.{all_pass as the_law}
use Rattle.event_json.proofs.laws.all_pass.Goals as goal

pub returns : goal.returns
returns c = the_law
