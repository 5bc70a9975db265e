use Rattle.document_lint.proofs.LackLaws.{lacks_are_told}
use Rattle.document_lint.proofs.laws.lacks_are_told.Goals as goal

pub returns : goal.returns
returns c = lacks_are_told
