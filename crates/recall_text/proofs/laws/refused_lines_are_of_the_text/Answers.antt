use Rattle.recall_text.proofs.SiteListLaws.{are_of_the_text}
use Rattle.recall_text.proofs.laws.refused_lines_are_of_the_text.Goals as goal

pub returns : goal.returns
returns c = are_of_the_text
