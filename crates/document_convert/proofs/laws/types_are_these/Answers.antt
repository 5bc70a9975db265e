use Rattle.document_convert.proofs.HeldLaws.{types_are_these}
use Rattle.document_convert.proofs.laws.types_are_these.Goals as goal

pub returns : goal.returns
returns c = types_are_these
