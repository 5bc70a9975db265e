use Rattle.document_convert.proofs.PlacedLaws.{placed_stay, second_places_nothing}
use Rattle.document_convert.proofs.laws.placed_stay.Goals as goal

pub returns-clause-documents : goal.returns-clause-documents
returns-clause-documents c = placed_stay

pub returns-clause-second : goal.returns-clause-second
returns-clause-second c = second_places_nothing
