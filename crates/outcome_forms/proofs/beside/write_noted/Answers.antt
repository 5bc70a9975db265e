use Rattle.outcome_forms.proofs.Lines.{texts_after}
use Rattle.outcome_forms.proofs.beside.write_noted.Goals as goal

pub returns : goal.returns
returns g c = texts_after _ _ _ c.note.ensures c.note-2.ensures
