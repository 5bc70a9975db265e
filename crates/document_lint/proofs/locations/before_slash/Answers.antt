use Rattle.std.proofs.Common.{lit<, refl}
use Rattle.epc_core.proofs.Cuts.{splits_none, splits_some}
use Rattle.document_lint.proofs.locations.before_slash.Goals as goal

pub returns-in-Some : goal.returns-in-Some
returns-in-Some c = rw (splits_some 47 _ _ _ _ c.in-Some.is (lit< tt) c.split_once.ensures.cases) refl

pub returns-in-None : goal.returns-in-None
returns-in-None c = rw (splits_none 47 _ _ c.in-None.is (lit< tt) c.split_once.ensures.cases) refl
