use Rattle.site_threads.proofs.Handing.{begins}
use Rattle.site_threads.proofs.desks.DeskOut.none.Goals as goal

pub bounded_with-requires-clause-rule : goal.bounded_with-requires-clause-rule
bounded_with-requires-clause-rule c = begins

pub bounded_with-requires-2-clause-rule : goal.bounded_with-requires-2-clause-rule
bounded_with-requires-2-clause-rule c = begins
