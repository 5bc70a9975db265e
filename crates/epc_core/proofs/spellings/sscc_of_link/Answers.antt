use Rattle.std.proofs.Common.{refl, codes}
use Rattle.epc_core.proofs.Cuts.{strips_none}
use Rattle.epc_core.proofs.spellings.sscc_of_link.Goals as goal

pub returns-in_err-digits : goal.returns-in_err-digits
returns-in_err-digits c =
    let none = strips_none (codes "https://id.gs1.org/00/") _ _ c.in_err-digits.was c.strip_prefix.ensures.cases in
    rw (c.from_residual.ensures, none) refl
