use Rattle.document_convert.proofs.Members.{types_are_told}
use Rattle.document_convert.proofs.laws.types_are_told.Goals as goal

pub returns : goal.returns
returns c = types_are_told
