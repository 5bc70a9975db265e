use Rattle.trace_core.proofs.FoundSteps.{marked_pushed}
use Rattle.trace_core.proofs.found_items.push_if_marked.Goals as goal

pub returns-in_ok-push_numbered : goal.returns-in_ok-push_numbered
returns-in_ok-push_numbered c i = marked_pushed (c.has.ensures.0 c.if-has.true) (c.in_ok-push_numbered.ensures i)
