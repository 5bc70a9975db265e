use Rattle.document_lint.proofs.EventFaultLaws.{faults_stand_alone}
use Rattle.document_lint.proofs.laws.faults_stand_alone.Goals as goal

pub returns : goal.returns
returns c = faults_stand_alone
