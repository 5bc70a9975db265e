use Rattle.document_lint.proofs.NearLaws.{spell_none}
use Rattle.document_lint.proofs.laws.near_misses_spell_none.Goals as goal

pub returns : goal.returns
returns c = spell_none
