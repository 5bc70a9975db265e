use Rattle.document_convert.proofs.EventLaws.{events_are_kept}
use Rattle.document_convert.proofs.laws.events_are_kept.Goals as goal

pub returns : goal.returns
returns c = events_are_kept
