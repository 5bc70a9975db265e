use Rattle.document_lint.proofs.NearLaws.{begin_so}
use Rattle.document_lint.proofs.laws.spellings_begin_so.Goals as goal

pub returns : goal.returns
returns c = begin_so
