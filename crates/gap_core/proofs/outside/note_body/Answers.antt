use Rattle.std.proofs.lemmas.Result.{on_ok_weaker}
use Rattle.gap_core.proofs.PlaceLists.{texts_kept}
use Rattle.gap_core.proofs.outside.note_body.Goals as goal

pub returns-in-Ship : goal.returns-in-Ship
returns-in-Ship c = on_ok_weaker c.note_texts.result
    (texts_kept c.args.outside.now c.note_texts.new.outside c.args.body.now _ _ _ c.as_slice.result.now c.args.place c.in-Ship.is c.as_slice.ensures)
    c.note_texts.ensures
