use Rattle.site_threads.proofs.Coming.{messages_come_round}
use Rattle.site_threads.proofs.laws.messages_come_round.Goals as goal

pub returns : goal.returns
returns c = messages_come_round
