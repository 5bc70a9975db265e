use Rattle.wire_core.proofs.Fitting.{posts_keep_the_fit, fewer_fit}
use Rattle.wire_core.proofs.laws.a_post_keeps_the_fit.Goals as goal

pub returns-clause-posted : goal.returns-clause-posted
returns-clause-posted c = posts_keep_the_fit

pub returns-clause-fewer : goal.returns-clause-fewer
returns-clause-fewer c = fewer_fit
