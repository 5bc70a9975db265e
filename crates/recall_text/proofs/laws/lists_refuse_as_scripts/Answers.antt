use Rattle.recall_text.proofs.SiteListLaws.{refuse_as_scripts}
use Rattle.recall_text.proofs.laws.lists_refuse_as_scripts.Goals as goal

pub returns : goal.returns
returns c = refuse_as_scripts
