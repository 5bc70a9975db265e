use Rattle.query_core.proofs.OneAnswer.{one_detail}
use Rattle.query_core.proofs.laws.records_have_one_detail.Goals as goal

pub returns : goal.returns
returns c = one_detail
