use Rattle.gap_core.proofs.UnlinkedSteps.{unlinked_never_came}
use Rattle.gap_core.proofs.laws.unlinked_never_came.Goals as goal

pub returns : goal.returns
returns c = unlinked_never_came
