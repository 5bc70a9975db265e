use Rattle.document_lint.proofs.LocationLaws.{are_spelled}
use Rattle.document_lint.proofs.laws.locations_are_spelled.Goals as goal

pub returns : goal.returns
returns c = are_spelled
