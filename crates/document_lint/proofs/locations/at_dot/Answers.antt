use Rattle.std.proofs.Common.{lit<}
use Rattle.document_lint.proofs.Cuts.{splits}
use Rattle.document_lint.proofs.locations.at_dot.Goals as goal

pub returns : goal.returns
returns c = splits 46 _ c.split_once.result (lit< tt) c.split_once.ensures.cases
