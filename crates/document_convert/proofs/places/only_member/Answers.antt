use Rattle.document_convert.proofs.PlaceLemmas.{not_one}
use Rattle.document_convert.proofs.places.only_member.Goals as goal

pub returns-else-list-eq1 : goal.returns-else-list-eq1
returns-else-list-eq1 c = not_one c.args.list.now c.if-list-eq1.false
