use Rattle.report_forms.proofs.Guarding.{formulas_guarded}
use Rattle.report_forms.proofs.laws.formulas_are_guarded.Goals as goal

pub returns : goal.returns
returns c = formulas_guarded
