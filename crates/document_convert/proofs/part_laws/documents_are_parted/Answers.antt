use Rattle.document_convert.proofs.DocumentParts.{documents_are_parted}
use Rattle.document_convert.proofs.part_laws.documents_are_parted.Goals as goal

pub returns : goal.returns
returns c = documents_are_parted
