use Rattle.std.proofs.lemmas.Result.{on_ok_weaker}
use Rattle.report_core.proofs.PlacesKept.{body_noted}
use Rattle.report_core.proofs.makers.note_body.Goals as goal

pub returns : goal.returns
returns c = on_ok_weaker c.note_items.result
    (body_noted c.args.noting c.args.body.now c.noted_items.result.now c.noted_items.ensures c.args.place c.args.index.now c.note_items.new.index c.args.wanted)
    c.note_items.ensures
