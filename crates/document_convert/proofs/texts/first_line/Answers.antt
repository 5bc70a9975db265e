use Rattle.document_convert.proofs.LineLemmas.{parted_cut, parted_none}
use Rattle.document_convert.proofs.texts.first_line.Goals as goal

pub returns-in-Some : goal.returns-in-Some
returns-in-Some c = let (inside, within, ends) = c.in-Some.ensures.some in parted_cut c.args.text.now c.in-Some.end within ends

pub returns-in-None : goal.returns-in-None
returns-in-None c = parted_none c.args.text.now c.in-None.ensures.none
