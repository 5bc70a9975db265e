use Rattle.wire_core.proofs.Fitting.{marks_keep_the_fit}
use Rattle.wire_core.proofs.laws.a_mark_keeps_the_fit.Goals as goal

pub returns : goal.returns
returns c = marks_keep_the_fit
