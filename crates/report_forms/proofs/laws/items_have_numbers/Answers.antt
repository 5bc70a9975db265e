use Rattle.report_forms.proofs.TextLaws.{numbers_are}
use Rattle.report_forms.proofs.laws.items_have_numbers.Goals as goal

pub returns : goal.returns
returns c = numbers_are
