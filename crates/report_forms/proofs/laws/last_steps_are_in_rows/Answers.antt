use Rattle.report_forms.proofs.EvidenceLaws.{last_steps}
use Rattle.report_forms.proofs.laws.last_steps_are_in_rows.Goals as goal

pub returns : goal.returns
returns c = last_steps
