use Rattle.std.proofs.Common.{sym, subst}
use Rattle.std.specs.Prelude.{IsUtf8}
use Rattle.epc_core.proofs.Found.{IsUtf8-from_serial}
use Rattle.epc_core.proofs.serials.Serial.as_str.Goals as goal

pub unreachable-requires : goal.unreachable-requires
unreachable-requires c = c.in-Err.ensures.cases.0 (subst IsUtf8 (sym c.as_bytes.ensures.bytes) (IsUtf8-from_serial _ c.as_bytes.ensures.serial))
