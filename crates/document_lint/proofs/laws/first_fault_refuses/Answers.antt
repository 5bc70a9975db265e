use Rattle.document_lint.proofs.FaultLaws.{first_is_told}
use Rattle.document_lint.proofs.laws.first_fault_refuses.Goals as goal

pub returns : goal.returns
returns c = first_is_told
