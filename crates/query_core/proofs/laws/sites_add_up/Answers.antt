use Rattle.query_core.proofs.OneAnswer.{sites_add_up}
use Rattle.query_core.proofs.laws.sites_add_up.Goals as goal

pub returns : goal.returns
returns c = sites_add_up
