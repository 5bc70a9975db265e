use Rattle.std.proofs.Common.{lit<}
use Rattle.item_spellings.proofs.LotParts.{splits}
use Rattle.report_forms.proofs.item_numbers.parted.Goals as goal

pub returns : goal.returns
returns c = splits 32 _ c.split_once.result (lit< tt) c.split_once.ensures.cases
