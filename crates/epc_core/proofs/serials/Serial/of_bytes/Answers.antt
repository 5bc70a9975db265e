use Rattle.std.proofs.Common.{◌≡◌, true, refl, sym, ◌∙◌, subst}
use Rattle.epc_core.specs.Serials.{is_serial, IsSerial}
use Rattle.epc_core.proofs.Held.{written}
use Rattle.epc_core.proofs.Spelled.{serial_from}
use Rattle.epc_core.proofs.serials.Serial.of_bytes.Goals as goal

pub invariant_of-result : goal.invariant_of-result
invariant_of-result c =
    let test : is_serial c.args.bytes.now ≡ true = sym c.is_serial.ensures ∙ c.if-not-is_serial.false in
    let serial = serial_from _ test in
    let few = serial.few in
    let held = written 20 _ c.args.bytes.now _ c.copy_from_slice.ensures.after refl few in
    (held.0, subst IsSerial (sym held.1) serial)
