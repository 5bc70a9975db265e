use Rattle.item_spellings.proofs.LotParts.{lots_have_parts}
use Rattle.item_spellings.proofs.laws.lots_have_parts.Goals as goal

pub returns : goal.returns
returns c = lots_have_parts
