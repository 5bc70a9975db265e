use Rattle.recall_outcomes.proofs.BatchLaws.{are_counted}
use Rattle.recall_outcomes.proofs.laws.refused_inputs_are_counted.Goals as goal

pub returns : goal.returns
returns c = are_counted
