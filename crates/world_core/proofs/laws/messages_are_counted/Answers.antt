use Rattle.world_core.proofs.Counting.{messages_are_counted}
use Rattle.world_core.proofs.laws.messages_are_counted.Goals as goal

pub returns : goal.returns
returns c = messages_are_counted
