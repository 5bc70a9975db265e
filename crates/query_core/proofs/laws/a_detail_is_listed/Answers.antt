use Rattle.query_core.proofs.OneAnswer.{details_are_listed}
use Rattle.query_core.proofs.laws.a_detail_is_listed.Goals as goal

pub returns : goal.returns
returns c = details_are_listed
