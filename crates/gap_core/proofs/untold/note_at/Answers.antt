use Rattle.std.proofs.Common.{◌∙◌, sym, ap}
use Rattle.std.specs.List.{Contains}
use Rattle.std.specs.Option.{option_map}
use Rattle.std.proofs.lemmas.Result.{on_ok_weaker}
use Rattle.gap_core.specs.Untold.{IsUntoldOf}
use Rattle.gap_core.proofs.Turns.{adds_at, none_at}
use Rattle.gap_core.proofs.untold.note_at.Goals as goal

pub returns-in-Some : goal.returns-in-Some
returns-in-Some c = on_ok_weaker c.note_item.result
    (adds_at c.args.sent.now (IsUntoldOf c.args.site c.args.text.now c.args.told.now c.args.reached.now) c.args.place c.in-Some.item.now (Contains c.args.found.now.items) (Contains c.note_item.new.found.items)
    (sym (sym (ap (option_map (λ i. i.now)) c.in-Some.is) ∙ c.get.ensures)))
    c.note_item.ensures

pub returns-in-None : goal.returns-in-None
returns-in-None c = none_at c.args.sent.now (IsUntoldOf c.args.site c.args.text.now c.args.told.now c.args.reached.now) c.args.place (Contains c.args.found.now.items)
    (sym (ap (option_map (λ i. i.now)) c.in-None.is) ∙ c.get.ensures)
