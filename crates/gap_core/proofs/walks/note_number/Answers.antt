use Rattle.std.proofs.Common.{◌∙◌, sym, ap}
use Rattle.std.specs.Option.{option_map}
use Rattle.std.proofs.lemmas.Result.{on_ok_weaker}
use Rattle.trace_core.specs.Numbers.{numbered}
use Rattle.gap_core.proofs.WalkSteps.{number_noted}
use Rattle.gap_core.proofs.walks.note_number.Goals as goal

pub returns-in-Some : goal.returns-in-Some
returns-in-Some c = on_ok_weaker c.note.result
    (number_noted (numbered c.args.site.now.events) c.args.number c.in-Some.item.now c.args.found.now c.note.new.self (sym (sym (ap (option_map (λ i. i.now)) c.in-Some.is) ∙ c.item.ensures)))
    c.note.ensures
