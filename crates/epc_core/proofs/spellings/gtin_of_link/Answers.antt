use Rattle.std.proofs.Common.{◌≡◌, ◌&&◌, false, true, refl, sym, lit<, codes}
use Rattle.std.proofs.lemmas.Bool.{cond-true, cond-false, and_left, and_right, and_from}
use Rattle.std.specs.List.{list_all}
use Rattle.epc_core.specs.Numbers.{is_checked}
use Rattle.epc_core.specs.Serials.{is_part_byte}
use Rattle.epc_core.proofs.Cuts.{strips_some, strips_none, splits_some, splits_none}
use Rattle.epc_core.proofs.spellings.gtin_of_link.Goals as goal
use Rattle.epc_core.proofs.spellings.gtin_of_link.Goals.{then-not-is_checked-via-then-not-is_checked, then-not-is_checked-via-else-not-is_checked+then-not-is_part}

pub returns-in_err-rest : goal.returns-in_err-rest
returns-in_err-rest c =
    let none = strips_none (codes "https://id.gs1.org/01/") _ _ c.in_err-rest.was c.strip_prefix.ensures.cases in
    rw (c.from_residual.ensures, none) refl

pub returns-in_err-digits : goal.returns-in_err-digits
returns-in_err-digits c =
    let front = strips_some (codes "https://id.gs1.org/01/") _ _ _ c.in_ok-rest.was c.strip_prefix.ensures.cases in
    let none = splits_none 47 _ _ c.in_err-digits.was (lit< tt) c.split_once.ensures.cases in
    rw (c.from_residual-in_err-digits.ensures, front, none) refl

pub returns-in_err-escaped : goal.returns-in_err-escaped
returns-in_err-escaped c =
    let front = strips_some (codes "https://id.gs1.org/01/") _ _ _ c.in_ok-rest.was c.strip_prefix.ensures.cases in
    let first = splits_some 47 _ _ _ _ c.in_ok-digits.was (lit< tt) c.split_once.ensures.cases in
    let none = strips_none (codes "21/") _ _ c.in_err-escaped.was c.strip_prefix-2.ensures.cases in
    rw (c.from_residual-in_err-escaped.ensures, front, first, none) refl

pub returns-then-not-is_checked : goal.returns-then-not-is_checked
returns-then-not-is_checked c =
    let front = strips_some (codes "https://id.gs1.org/01/") _ _ _ c.in_ok-rest.was c.strip_prefix.ensures.cases in
    let first = splits_some 47 _ _ _ _ c.in_ok-digits.was (lit< tt) c.split_once.ensures.cases in
    let second = strips_some (codes "21/") _ _ _ c.in_ok-escaped.was c.strip_prefix-2.ensures.cases in
    let test : (is_checked 14 c.in_ok-digits.digits.now && list_all is_part_byte c.in_ok-escaped.escaped.now) ≡ false =
    elim c.then-not-is_checked.branch [
      | then-not-is_checked-via-then-not-is_checked w ↦
          let checked : is_checked 14 c.in_ok-digits.digits.now ≡ false = cc in and_left _ _ checked
      | then-not-is_checked-via-else-not-is_checked+then-not-is_part w ↦
          let part : list_all is_part_byte c.in_ok-escaped.escaped.now ≡ false = cc in and_right _ _ part
    ]
    in
    rw (front, first, second) (sym (cond-false _ _ _ test))

pub returns : goal.returns
returns c =
    let front = strips_some (codes "https://id.gs1.org/01/") _ _ _ c.in_ok-rest.was c.strip_prefix.ensures.cases in
    let first = splits_some 47 _ _ _ _ c.in_ok-digits.was (lit< tt) c.split_once.ensures.cases in
    let second = strips_some (codes "21/") _ _ _ c.in_ok-escaped.was c.strip_prefix-2.ensures.cases in
    let checked : is_checked 14 c.in_ok-digits.digits.now ≡ true = cc in
    let part : list_all is_part_byte c.in_ok-escaped.escaped.now ≡ true = cc in
    rw (front, first, second) (rw (cond-true _ _ _ (and_from _ _ checked part)) cc)
