use Rattle.document_convert.proofs.NamedLaws.{lots_are_named}
use Rattle.document_convert.proofs.laws.lots_are_named.Goals as goal

pub returns : goal.returns
returns c = lots_are_named
