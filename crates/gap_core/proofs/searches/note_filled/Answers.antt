use Rattle.std.proofs.Common.{◌∙◌, sym, ap}
use Rattle.std.specs.Option.{option_map}
use Rattle.std.proofs.lemmas.Result.{on_ok_weaker}
use Rattle.gap_core.proofs.SourceLists.{filled_noted}
use Rattle.gap_core.proofs.searches.note_filled.Goals as goal

pub returns-in-Some : goal.returns-in-Some
returns-in-Some c = on_ok_weaker c.note_source.result
    (filled_noted c.args.index.now c.note_source.new.index c.args.body.now c.in-Some.item.now c.args.at (sym (ap (option_map (λ i. i.now)) c.in-Some.is) ∙ c.filled.ensures))
    c.note_source.ensures
