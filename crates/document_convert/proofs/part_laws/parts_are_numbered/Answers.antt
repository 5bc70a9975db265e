use Rattle.document_convert.proofs.PartIds.{parts_are_numbered}
use Rattle.document_convert.proofs.part_laws.parts_are_numbered.Goals as goal

pub returns : goal.returns
returns c = parts_are_numbered
