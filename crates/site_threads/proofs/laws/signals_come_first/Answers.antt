use Rattle.site_threads.proofs.Coming.{signals_come_first}
use Rattle.site_threads.proofs.laws.signals_come_first.Goals as goal

pub returns : goal.returns
returns c = signals_come_first
