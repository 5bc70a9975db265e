use Rattle.item_spellings.proofs.LotParts.{numbers_are_decoded}
use Rattle.item_spellings.proofs.laws.lot_numbers_are_decoded.Goals as goal

pub returns : goal.returns
returns c = numbers_are_decoded
