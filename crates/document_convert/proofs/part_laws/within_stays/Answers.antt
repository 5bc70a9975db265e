use Rattle.document_convert.proofs.ReadParts.{within_stays}
use Rattle.document_convert.proofs.part_laws.within_stays.Goals as goal

pub returns : goal.returns
returns c = within_stays
