use Rattle.document_convert.proofs.LostLaws.{nothing_gets_lost}
use Rattle.document_convert.proofs.laws.nothing_gets_lost.Goals as goal

pub returns : goal.returns
returns c = nothing_gets_lost
