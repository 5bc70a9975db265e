use Rattle.outcome_forms.proofs.TellingLaws.{values_tell}
use Rattle.outcome_forms.proofs.laws.values_tell_outcomes.Goals as goal

pub returns : goal.returns
returns c = values_tell
