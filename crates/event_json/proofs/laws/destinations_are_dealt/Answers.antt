use Rattle.event_json.proofs.Listed.{destinations as the_law}
use Rattle.event_json.proofs.laws.destinations_are_dealt.Goals as goal

pub returns : goal.returns
returns c = the_law
