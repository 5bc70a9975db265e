use Rattle.document_convert.proofs.PlacedLaws.{destinations_are_placed, documents_are_placed, events_are_placed}
use Rattle.document_convert.proofs.TracedLaws.{shipments_are_traced}
use Rattle.document_convert.proofs.laws.destinations_are_placed.Goals as goal

pub returns-clause-texts : goal.returns-clause-texts
returns-clause-texts c = destinations_are_placed

pub returns-clause-events : goal.returns-clause-events
returns-clause-events c = events_are_placed

pub returns-clause-documents : goal.returns-clause-documents
returns-clause-documents c = documents_are_placed

pub returns-clause-read : goal.returns-clause-read
returns-clause-read c = shipments_are_traced
