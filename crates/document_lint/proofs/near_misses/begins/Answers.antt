use Rattle.epc_core.proofs.Cuts.{strips_none, strips_some}
use Rattle.document_lint.proofs.near_misses.begins.Goals as goal
use Rattle.std.proofs.Common.{refl}

pub returns-in-Some : goal.returns-in-Some
returns-in-Some c = rw (strips_some _ _ _ _ c.in-Some.is c.strip_prefix.ensures.cases) refl

pub returns-in-None : goal.returns-in-None
returns-in-None c = rw (strips_none _ _ _ c.in-None.is c.strip_prefix.ensures.cases) refl
