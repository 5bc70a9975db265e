use Rattle.document_convert.proofs.UnitLaws.{lots_are_made}
use Rattle.document_convert.proofs.laws.lots_are_made.Goals as goal

pub returns : goal.returns
returns c = lots_are_made
