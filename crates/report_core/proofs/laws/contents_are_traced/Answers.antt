use Rattle.report_core.proofs.ContentsTraced.{contents_are_traced}
use Rattle.report_core.proofs.laws.contents_are_traced.Goals as goal

pub returns : goal.returns
returns c = contents_are_traced
