use Rattle.outcome_forms.proofs.ToldApart.{stays}
use Rattle.outcome_forms.proofs.laws.plain_texts_stay.Goals as goal

pub returns : goal.returns
returns c = stays
