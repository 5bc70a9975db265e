use Rattle.outcome_forms.proofs.ValueLaws.{lines_tell_values}
use Rattle.outcome_forms.proofs.laws.lines_tell_values.Goals as goal

pub returns : goal.returns
returns c = lines_tell_values
