use Rattle.report_forms.proofs.EvidenceLaws.{first_steps}
use Rattle.report_forms.proofs.laws.first_steps_are_in_rows.Goals as goal

pub returns : goal.returns
returns c = first_steps
