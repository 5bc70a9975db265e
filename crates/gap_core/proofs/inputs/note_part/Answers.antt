use Rattle.std.proofs.Common.{◌∙◌, sym, ap}
use Rattle.std.specs.Option.{option_map}
use Rattle.std.proofs.lemmas.Result.{on_ok_weaker}
use Rattle.gap_core.specs.Used.{taken_in}
use Rattle.gap_core.proofs.UsedSteps.{once_noted}
use Rattle.gap_core.proofs.inputs.note_part.Goals as goal

pub returns-in-Some : goal.returns-in-Some
returns-in-Some c = on_ok_weaker c.note_items.result
    (once_noted c.args.site.now.events c.args.place c.in-Some.event.now (sym (sym (ap (option_map (λ e. e.now)) c.in-Some.is) ∙ c.event.ensures)) c.taken_in.result.now
    (c.taken_in.ensures ∙ ap taken_in c.body.ensures.value) c.args.inputs.now c.note_items.new.items)
    c.note_items.ensures
