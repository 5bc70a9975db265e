use Rattle.document_convert.proofs.PartLaws.{lists_are_parted, others_are_kept}
use Rattle.document_convert.proofs.part_laws.parts_have_all.Goals as goal

pub returns-clause-lists : goal.returns-clause-lists
returns-clause-lists c = lists_are_parted

pub returns-clause-others : goal.returns-clause-others
returns-clause-others c = others_are_kept
