use Rattle.std.proofs.Common.{◌≡◌, false, true, refl, sym, lit<, codes}
use Rattle.std.proofs.lemmas.Bool.{cond-true, cond-false}
use Rattle.epc_core.specs.Numbers.{are_parts}
use Rattle.epc_core.proofs.Cuts.{strips_some, strips_none, splits_some, splits_none}
use Rattle.epc_core.proofs.spellings.sscc_of_uri.Goals as goal

pub returns-in_err-rest : goal.returns-in_err-rest
returns-in_err-rest c =
    let none = strips_none (codes "urn:epc:id:sscc:") _ _ c.in_err-rest.was c.strip_prefix.ensures.cases in
    rw (c.from_residual.ensures, none) refl

pub returns-in_err-company : goal.returns-in_err-company
returns-in_err-company c =
    let front = strips_some (codes "urn:epc:id:sscc:") _ _ _ c.in_ok-rest.was c.strip_prefix.ensures.cases in
    let none = splits_none 46 _ _ c.in_err-company.was (lit< tt) c.split_once.ensures.cases in
    rw (c.from_residual-in_err-company.ensures, front, none) refl

pub returns-then-not-are_parts : goal.returns-then-not-are_parts
returns-then-not-are_parts c =
    let front = strips_some (codes "urn:epc:id:sscc:") _ _ _ c.in_ok-rest.was c.strip_prefix.ensures.cases in
    let first = splits_some 46 _ _ _ _ c.in_ok-company.was (lit< tt) c.split_once.ensures.cases in
    let test : are_parts 17 c.in_ok-company.company.now c.in_ok-company.reference.now ≡ false = cc in
    rw (front, first) (sym (cond-false _ _ _ test))

pub returns : goal.returns
returns c =
    let front = strips_some (codes "urn:epc:id:sscc:") _ _ _ c.in_ok-rest.was c.strip_prefix.ensures.cases in
    let first = splits_some 46 _ _ _ _ c.in_ok-company.was (lit< tt) c.split_once.ensures.cases in
    let test : are_parts 17 c.in_ok-company.company.now c.in_ok-company.reference.now ≡ true = cc in
    rw (front, first) (rw (cond-true _ _ _ test) cc)
