use Rattle.outcome_forms.proofs.Lines.{texts_after}
use Rattle.outcome_forms.proofs.beside.write_beside.Goals as goal

pub returns : goal.returns
returns g c = texts_after _ _ _ c.explain.ensures (texts_after _ _ _ c.note.ensures (texts_after _ _ _ c.note-2.ensures c.note-3.ensures))
