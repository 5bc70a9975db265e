use Rattle.document_convert.proofs.ReadLaws.{read_is_unchanged}
use Rattle.document_convert.proofs.laws.read_is_unchanged.Goals as goal

pub returns : goal.returns
returns c = read_is_unchanged
