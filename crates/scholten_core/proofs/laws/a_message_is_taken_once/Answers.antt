use Rattle.scholten_core.proofs.Taking.{unseen_is_taken, seen_is_repeat}
use Rattle.scholten_core.proofs.laws.a_message_is_taken_once.Goals as goal

pub returns : goal.returns
returns c = record { taken = unseen_is_taken; repeat = seen_is_repeat }
