use Rattle.std.proofs.Common.{lit<, refl}
use Rattle.epc_core.proofs.Cuts.{splits_none, splits_some}
use Rattle.document_lint.proofs.near_misses.path_of.Goals as goal

pub returns-in_err-path : goal.returns-in_err-path
returns-in_err-path c =
    let none = splits_none 47 _ _ c.in_err-path.was (lit< tt) c.split_once.ensures.cases in
    rw (c.from_residual.ensures, none) refl

pub returns : goal.returns
returns c = rw (splits_some 47 _ _ _ _ c.in_ok-path.was (lit< tt) c.split_once.ensures.cases) refl
