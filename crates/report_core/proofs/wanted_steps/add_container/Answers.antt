use Rattle.std.proofs.Common.{◌∙◌, ap, sym}
use Rattle.std.specs.Option.{option_map}
use Rattle.report_core.proofs.StepsWanted.{filled_added}
use Rattle.report_core.proofs.wanted_steps.add_container.Goals as goal

pub returns-in_ok-insert : goal.returns-in_ok-insert
returns-in_ok-insert c =
    let is = sym (sym (ap (option_map (λ i. i.now)) c.in-Some.is) ∙ c.filled.ensures) in
    filled_added c.args.items.now c.insert.new.self c.args.body.now c.in-Some.item.now c.in_ok-copy.field-0 is c.in_ok-copy.ensures c.in_ok-insert.ensures.updates
