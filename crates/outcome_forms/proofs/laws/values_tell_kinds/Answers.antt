use Rattle.outcome_forms.proofs.TellingLaws.{values_tell_kinds}
use Rattle.outcome_forms.proofs.laws.values_tell_kinds.Goals as goal

pub returns : goal.returns
returns c = values_tell_kinds
