use Rattle.outcome_forms.proofs.Trees.{values_are_read}
use Rattle.outcome_forms.proofs.laws.values_are_read.Goals as goal

pub returns : goal.returns
returns c = values_are_read
