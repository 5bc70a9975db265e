use Rattle.epc_core.proofs.Told.{reading_from, reading_to}
use Rattle.epc_core.proofs.laws.reading_is_spelling.Goals as goal

pub returns : goal.returns
returns c = λ text key. (reading_from text key, reading_to text key)
