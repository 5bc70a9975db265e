use Rattle.report_forms.proofs.TextLaws.{texts_read}
use Rattle.report_forms.proofs.laws.texts_read_back.Goals as goal

pub returns : goal.returns
returns c = texts_read
