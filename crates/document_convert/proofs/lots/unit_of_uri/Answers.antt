use Rattle.std.proofs.Common.{codes, refl}
use Rattle.epc_core.proofs.Cuts.{strips_none}
use Rattle.document_convert.proofs.lots.unit_of_uri.Goals as goal

pub returns-in-None : goal.returns-in-None
returns-in-None c = rw (strips_none (codes "urn:epc:class:lgtin:") _ _ c.in-None.is c.strip_prefix.ensures.cases) refl
