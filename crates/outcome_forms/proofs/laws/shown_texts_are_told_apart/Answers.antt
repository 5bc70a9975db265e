use Rattle.outcome_forms.proofs.ToldApart.{told_apart}
use Rattle.outcome_forms.proofs.laws.shown_texts_are_told_apart.Goals as goal

pub returns : goal.returns
returns c = told_apart
