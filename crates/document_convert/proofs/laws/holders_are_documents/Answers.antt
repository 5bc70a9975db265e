use Rattle.document_convert.proofs.EventLaws.{holders_are_documents}
use Rattle.document_convert.proofs.laws.holders_are_documents.Goals as goal

pub returns : goal.returns
returns c = holders_are_documents
