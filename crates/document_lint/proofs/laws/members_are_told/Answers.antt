use Rattle.document_lint.proofs.EventFaultLaws.{members_are_told}
use Rattle.document_lint.proofs.laws.members_are_told.Goals as goal

pub returns : goal.returns
returns c = members_are_told
