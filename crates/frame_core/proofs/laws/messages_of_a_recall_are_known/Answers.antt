use Rattle.frame_core.proofs.Known.{messages_are_known}
use Rattle.frame_core.proofs.laws.messages_of_a_recall_are_known.Goals as goal

pub returns : goal.returns
returns c = messages_are_known
