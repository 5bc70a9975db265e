use Rattle.std.proofs.Common.{lit<}
use Rattle.document_convert.proofs.Cuts.{splits}
use Rattle.document_convert.proofs.lots.at_bracket.Goals as goal

pub returns : goal.returns
returns c = splits 40 _ c.split_once.result (lit< tt) c.split_once.ensures.cases
