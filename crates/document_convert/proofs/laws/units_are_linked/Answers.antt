use Rattle.document_convert.proofs.LinkedLaws.{documents_are_linked, events_are_linked}
use Rattle.document_convert.proofs.UnitLinks.{texts_are_linked}
use Rattle.document_convert.proofs.laws.units_are_linked.Goals as goal

pub returns-clause-texts : goal.returns-clause-texts
returns-clause-texts c = texts_are_linked

pub returns-clause-events : goal.returns-clause-events
returns-clause-events c = events_are_linked

pub returns-clause-documents : goal.returns-clause-documents
returns-clause-documents c = documents_are_linked
