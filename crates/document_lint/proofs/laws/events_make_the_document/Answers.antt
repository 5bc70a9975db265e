use Rattle.document_lint.proofs.ApartLaws.{events_make_the_document}
use Rattle.document_lint.proofs.laws.events_make_the_document.Goals as goal

pub returns : goal.returns
returns c = events_make_the_document
