use Rattle.item_spellings.proofs.Words.{keys_are_read}
use Rattle.item_spellings.proofs.laws.keys_are_read.Goals as goal

pub returns : goal.returns
returns c = keys_are_read
