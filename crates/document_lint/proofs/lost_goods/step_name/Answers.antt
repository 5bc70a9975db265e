use Rattle.std.proofs.Common.{codes, refl}
use Rattle.epc_core.proofs.Cuts.{strips_none}
use Rattle.document_lint.proofs.lost_goods.step_name.Goals as goal

pub returns-in-None : goal.returns-in-None
returns-in-None c =
    rw (strips_none (codes "urn:epcglobal:cbv:bizstep:") _ _ c.in_default.is c.strip_prefix.ensures.cases)
    (rw (strips_none (codes "https://ref.gs1.org/cbv/BizStep-") _ _ c.in-None.is c.strip_prefix-2.ensures.cases) refl)
