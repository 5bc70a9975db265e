use Rattle.document_convert.proofs.MovedLaws.{are_moved}
use Rattle.document_convert.proofs.laws.lots_are_moved.Goals as goal

pub returns : goal.returns
returns c = are_moved
