use Rattle.std.proofs.Common.{codes}
use Rattle.item_spellings.proofs.LotParts.{strips}
use Rattle.report_forms.proofs.item_numbers.behind_kind.Goals as goal

pub returns : goal.returns
returns c = strips (codes "sgtin ") _ c.strip_prefix.result c.strip_prefix.ensures.cases
