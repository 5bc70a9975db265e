use Rattle.std.proofs.Common.{◌∙◌, sym, ap}
use Rattle.std.specs.Option.{option_map}
use Rattle.std.proofs.lemmas.Result.{on_ok_weaker}
use Rattle.trace_core.specs.Numbers.{numbered}
use Rattle.gap_core.proofs.PackerSteps.{number_from}
use Rattle.gap_core.proofs.packers.note_number.Goals as goal

pub returns-in-Some : goal.returns-in-Some
returns-in-Some c = on_ok_weaker c.note_least.result
    (number_from c.args.packers.now c.note_least.new.packers (numbered c.args.site.now.events) c.args.number c.in-Some.child.now c.me.result c.args.site.now.me c.me.ensures
    (sym (sym (ap (option_map (λ i. i.now)) c.in-Some.is) ∙ c.item.ensures)))
    c.note_least.ensures
