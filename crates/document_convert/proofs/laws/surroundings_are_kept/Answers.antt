use Rattle.document_convert.proofs.EventLaws.{surroundings_are_kept}
use Rattle.document_convert.proofs.laws.surroundings_are_kept.Goals as goal

pub returns : goal.returns
returns c = surroundings_are_kept
