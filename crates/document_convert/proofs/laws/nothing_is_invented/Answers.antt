use Rattle.document_convert.proofs.UnitLaws.{nothing_is_invented}
use Rattle.document_convert.proofs.laws.nothing_is_invented.Goals as goal

pub returns : goal.returns
returns c = nothing_is_invented
