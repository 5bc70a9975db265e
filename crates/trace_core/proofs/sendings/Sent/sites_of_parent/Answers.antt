use Rattle.trace_core.proofs.SentSteps.{no_parent}
use Rattle.trace_core.proofs.sendings.Sent.sites_of_parent.Goals as goal

pub returns-in-None : goal.returns-in-None
returns-in-None c = no_parent c.args.self.now c.args.parent c.new.result c.in-None.is c.new.ensures
