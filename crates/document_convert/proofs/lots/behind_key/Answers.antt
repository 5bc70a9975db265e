use Rattle.std.proofs.Common.{refl}
use Rattle.document_convert.proofs.Cuts.{strips}
use Rattle.epc_core.proofs.Cuts.{strips_none, strips_some}
use Rattle.document_convert.proofs.lots.behind_key.Goals as goal

pub returns-in-Some : goal.returns-in-Some
returns-in-Some c = rw (strips_some c.args.number.now _ _ _ c.in-Some.is c.strip_prefix.ensures.cases) refl

pub returns-in-None : goal.returns-in-None
returns-in-None c =
    rw (strips_none c.args.number.now _ _ c.in-None.is c.strip_prefix.ensures.cases)
    (strips c.args.name.now _ c.strip_prefix-in-None.result c.strip_prefix-in-None.ensures.cases)
