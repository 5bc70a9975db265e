use Rattle.std.proofs.Common.{◌≡◌, true, false, sym, ap, ◌∙◌, subst}
use Rattle.epc_core.specs.Numbers.{IsChecked, is_checked}
use Rattle.epc_core.specs.Items.{sscc_key}
use Rattle.epc_core.proofs.Spelled.{checked_from}
use Rattle.epc_core.proofs.Words.{no_sscc}
use Rattle.epc_core.proofs.keys.sscc_of_key.Goals as goal

pub returns-then-not-is_checked : goal.returns-then-not-is_checked
returns-then-not-is_checked c =
    let test : is_checked 18 c.args.digits.now ≡ false = ap (is_checked 18) (sym c.as_bytes.ensures.value) ∙ (sym c.is_checked.ensures ∙ c.if-not-is_checked.true) in
    no_sscc c.args.digits.now test

pub returns : goal.returns
returns c =
    let test : is_checked 18 c.args.digits.now ≡ true = ap (is_checked 18) (sym c.as_bytes.ensures.value) ∙ (sym c.is_checked.ensures ∙ c.if-not-is_checked.false) in
    let same = c.copy_from_slice.ensures.after ∙ c.as_bytes-2.ensures.value in
    (ap sscc_key same, subst (IsChecked 18) (sym same) (checked_from 18 c.args.digits.now test))
