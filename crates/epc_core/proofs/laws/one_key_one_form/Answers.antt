use Rattle.epc_core.proofs.Told.{same_form}
use Rattle.epc_core.proofs.Words.{key_of_form_is_key}
use Rattle.epc_core.proofs.laws.one_key_one_form.Goals as goal

pub returns : goal.returns
returns c = record { is_key = key_of_form_is_key; same = same_form }
