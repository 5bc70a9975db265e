use Rattle.document_lint.proofs.ApartLaws.{alone_is_read}
use Rattle.document_lint.proofs.laws.alone_is_read.Goals as goal

pub returns : goal.returns
returns c = alone_is_read
