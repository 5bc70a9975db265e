use Rattle.trace_core.proofs.SentSteps.{sending_gone}
use Rattle.trace_core.proofs.sendings.Sent.pop.Goals as goal

pub invariant_of-self : goal.invariant_of-self
invariant_of-self c = sending_gone c.self.inside.log.items c.pop.new.self.items c.self.inside.sites.items c.forget_site.new.sites.items c.in-Some.last c.self.invariant c.in-Some.ensures.items c.forget_site.ensures
