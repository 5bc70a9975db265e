use Rattle.epc_core.proofs.Told.{equal_keys}
use Rattle.epc_core.proofs.laws.equal_keys_one_item.Goals as goal

pub returns : goal.returns
returns c = equal_keys
