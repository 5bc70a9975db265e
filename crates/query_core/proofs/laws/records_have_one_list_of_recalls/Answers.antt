use Rattle.query_core.proofs.OneAnswer.{one_list_of_recalls}
use Rattle.query_core.proofs.laws.records_have_one_list_of_recalls.Goals as goal

pub returns : goal.returns
returns c = one_list_of_recalls
