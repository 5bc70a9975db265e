use Rattle.epc_core.specs.Items.{key_of}
use Rattle.epc_core.proofs.Spelled.{spells_key}
use Rattle.epc_core.proofs.Told.{only_key}
use Rattle.epc_core.proofs.laws.one_text_one_item.Goals as goal

pub returns : goal.returns
returns c = record { exists = λ text plain. (key_of text, spells_key text plain); only = only_key }
