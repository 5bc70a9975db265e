use Rattle.std.proofs.Common.{codes}
use Rattle.item_spellings.proofs.LotParts.{strips}
use Rattle.item_spellings.proofs.lot_parts.behind_link.Goals as goal

pub returns : goal.returns
returns c = strips (codes "https://id.gs1.org/01/") _ c.strip_prefix.result c.strip_prefix.ensures.cases
