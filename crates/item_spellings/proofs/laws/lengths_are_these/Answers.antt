use Rattle.item_spellings.proofs.Lengths.{lengths_are_these}
use Rattle.item_spellings.proofs.laws.lengths_are_these.Goals as goal

pub returns : goal.returns
returns c = lengths_are_these
