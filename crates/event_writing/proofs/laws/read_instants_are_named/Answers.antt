use Rattle.event_writing.proofs.Instants.{instants_named}
use Rattle.event_writing.proofs.laws.read_instants_are_named.Goals as goal

pub returns : goal.returns
returns c = instants_named
