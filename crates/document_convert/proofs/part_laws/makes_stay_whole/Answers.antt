use Rattle.document_convert.proofs.PartLaws.{makes_stay_whole}
use Rattle.document_convert.proofs.part_laws.makes_stay_whole.Goals as goal

pub returns : goal.returns
returns c = makes_stay_whole
