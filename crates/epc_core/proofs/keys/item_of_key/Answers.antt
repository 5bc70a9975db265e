use Rattle.std.proofs.Common.{◌≡◌, true, false, lit<, sym, ◌∙◌, subst, codes, ◌++◌}
use Rattle.std.proofs.lemmas.Bool.{and_left, and_right}
use Rattle.epc_core.specs.Numbers.{is_checked}
use Rattle.epc_core.specs.Serials.{is_serial}
use Rattle.epc_core.specs.Forms.{IsFormOfKey}
use Rattle.epc_core.proofs.Cuts.{splits_some, splits_none}
use Rattle.epc_core.proofs.Spelled.{kept_serial, no_kept_serial}
use Rattle.epc_core.proofs.Words.{no_parts, no_item, item_found}
use Rattle.epc_core.proofs.keys.item_of_key.Goals as goal

pub returns-in_err-digits : goal.returns-in_err-digits
returns-in_err-digits c =
    let none = no_parts c.args.rest.now (splits_none 32 _ _ c.in_err-digits.was (lit< tt) c.split_once.ensures.cases) in
    subst (IsFormOfKey (codes "sgtin " ++ c.args.rest.now)) (sym c.from_residual.ensures) none

pub returns-then-not-is_checked : goal.returns-then-not-is_checked
returns-then-not-is_checked c =
    let cut = splits_some 32 _ _ _ _ c.in_ok-digits.was (lit< tt) c.split_once.ensures.cases in
    let checked : is_checked 14 c.in_ok-digits.digits.now ≡ false = cc in
    no_item c.args.rest.now _ _ cut (and_left _ (is_serial c.in_ok-digits.serial.now) checked)

pub returns-in_err-serial : goal.returns-in_err-serial
returns-in_err-serial c =
    let cut = splits_some 32 _ _ _ _ c.in_ok-digits.was (lit< tt) c.split_once.ensures.cases in
    let allowed : is_serial c.in_ok-digits.serial.now ≡ false = no_kept_serial _ _ _ c.in_err-serial.was c.of_bytes.ensures c.as_bytes-2.ensures.value in
    let none = no_item c.args.rest.now _ _ cut (and_right (is_checked 14 c.in_ok-digits.digits.now) _ allowed) in
    subst (IsFormOfKey (codes "sgtin " ++ c.args.rest.now)) (sym c.from_residual-in_err-serial.ensures) none

pub returns : goal.returns
returns c =
    let cut = splits_some 32 _ _ _ _ c.in_ok-digits.was (lit< tt) c.split_once.ensures.cases in
    let checked : is_checked 14 c.in_ok-digits.digits.now ≡ true = cc in
    let kept = kept_serial _ _ _ _ c.in_ok-serial.was c.of_bytes.ensures c.as_bytes-2.ensures.value in
    item_found c.args.rest.now _ _ _ _ cut checked kept.0 (c.copy_from_slice.ensures.after ∙ c.as_bytes-3.ensures.value) kept.1
