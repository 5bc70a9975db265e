use Rattle.epc_core.proofs.Plain.{bad_by_number}
use Rattle.epc_core.proofs.laws.bad_bytes.Goals as goal

pub returns : goal.returns
returns c = bad_by_number
