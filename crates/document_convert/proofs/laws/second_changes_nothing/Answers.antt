use Rattle.document_convert.proofs.EventLaws.{second_changes_nothing}
use Rattle.document_convert.proofs.laws.second_changes_nothing.Goals as goal

pub returns : goal.returns
returns c = second_changes_nothing
