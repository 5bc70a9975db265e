use Rattle.scholten_core.proofs.Beginning.{begun_begins, begun_tells}
use Rattle.scholten_core.proofs.laws.a_recall_begins.Goals as goal

pub returns : goal.returns
returns c = λ e root out. (begun_begins e root out, begun_tells e root out)
