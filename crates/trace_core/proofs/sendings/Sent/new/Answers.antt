use Rattle.trace_core.proofs.SentSteps.{nothing_sent}
use Rattle.trace_core.proofs.sendings.Sent.new.Goals as goal

pub invariant_of-result : goal.invariant_of-result
invariant_of-result c = nothing_sent c.new.result.items c.new-2.result.items c.new.ensures.items c.new-2.ensures.items
