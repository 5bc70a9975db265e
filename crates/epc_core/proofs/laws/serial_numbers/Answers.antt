use Rattle.std.proofs.Common.{refl}
use Rattle.epc_core.proofs.SerialCharacters.{serials_are_these}
use Rattle.epc_core.proofs.laws.serial_numbers.Goals as goal

pub returns : goal.returns
returns c = record { counted = refl; serials = serials_are_these }
