use Rattle.item_spellings.proofs.LotParts.{is_lot}
use Rattle.item_spellings.proofs.lot_parts.is_lot.Goals as goal

pub returns : goal.returns
returns c = is_lot c.args.item.now c.lot_parts_of.result c.is_some.result c.lot_parts_of.ensures c.is_some.ensures
