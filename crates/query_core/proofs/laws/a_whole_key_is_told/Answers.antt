use Rattle.query_core.proofs.OneAnswer.{whole_keys_are_told}
use Rattle.query_core.proofs.laws.a_whole_key_is_told.Goals as goal

pub returns : goal.returns
returns c = whole_keys_are_told
