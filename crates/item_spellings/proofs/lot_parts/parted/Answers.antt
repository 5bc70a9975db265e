use Rattle.std.proofs.Common.{lit<}
use Rattle.item_spellings.proofs.LotParts.{splits}
use Rattle.item_spellings.proofs.lot_parts.parted.Goals as goal

pub returns : goal.returns
returns c = splits 47 _ c.split_once.result (lit< tt) c.split_once.ensures.cases
