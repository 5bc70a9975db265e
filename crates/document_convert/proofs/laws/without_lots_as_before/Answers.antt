use Rattle.document_convert.proofs.UnitLaws.{without_lots_as_before}
use Rattle.document_convert.proofs.laws.without_lots_as_before.Goals as goal

pub returns : goal.returns
returns c = without_lots_as_before
