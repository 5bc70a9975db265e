use Rattle.report_forms.proofs.EvidenceLaws.{others_stay}
use Rattle.report_forms.proofs.laws.other_fields_stay.Goals as goal

pub returns : goal.returns
returns c = others_stay
