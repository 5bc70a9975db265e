use Rattle.site_tests.proofs.Serving.{are_desks, settles_if_ok}
use Rattle.site_tests.proofs.running.ran.Goals as goal

pub returns-clause-settles : goal.returns-clause-settles
returns-clause-settles g c = settles_if_ok _ _ _ _ _ _ c.run_world.result c.in_ok-desks.ensures.0 c.run_world.ensures.ran

pub returns-clause-desks : goal.returns-clause-desks
returns-clause-desks g c = are_desks _ _ c.in_ok-desks.ensures.0
