use Rattle.folder_questions.proofs.LateLemmas.{late_audits}
use Rattle.folder_questions.proofs.laws.late_audits_are_equal.Goals as goal

pub returns : goal.returns
returns c = late_audits
