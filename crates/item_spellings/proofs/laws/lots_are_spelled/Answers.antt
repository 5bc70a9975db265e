use Rattle.item_spellings.proofs.LotKeys.{lots_are_spelled}
use Rattle.item_spellings.proofs.laws.lots_are_spelled.Goals as goal

pub returns : goal.returns
returns c = lots_are_spelled
