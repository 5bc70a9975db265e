use Rattle.document_convert.proofs.HeldLaws.{holders_are_these}
use Rattle.document_convert.proofs.laws.holders_are_these.Goals as goal

pub returns : goal.returns
returns c = holders_are_these
