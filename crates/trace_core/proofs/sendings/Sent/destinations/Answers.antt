use Rattle.trace_core.proofs.SentSteps.{others_go}
use Rattle.trace_core.proofs.sendings.Sent.destinations.Goals as goal

pub returns-in_default : goal.returns-in_default
returns-in_default c = others_go c.args.self.now c.args.parent c.sites_of_parent.result c.sites_of_parent.ensures c.args.body.now c.in_default.not-Ship
