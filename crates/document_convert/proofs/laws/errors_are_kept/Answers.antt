use Rattle.document_convert.proofs.ErrorLaws.{declarations_go, documents_are_kept, others_stay, read_as_said}
use Rattle.document_convert.proofs.laws.errors_are_kept.Goals as goal

pub returns-clause-others : goal.returns-clause-others
returns-clause-others c = others_stay

pub returns-clause-events : goal.returns-clause-events
returns-clause-events c = declarations_go

pub returns-clause-read : goal.returns-clause-read
returns-clause-read c = read_as_said

pub returns-clause-documents : goal.returns-clause-documents
returns-clause-documents c = documents_are_kept
