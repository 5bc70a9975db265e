use Rattle.std.proofs.Common.{rules, ◌≡◌, sym, ap, ◌∙◌}
use Rattle.std.specs.Option.{option_map}
use Rattle.std.proofs.lemmas.Result.{on_ok_weaker}
use Rattle.report_core.proofs.LiesInItems.{filled_there}
use Rattle.report_core.proofs.containers.push_filled_at.Goals as goal

pub returns-in-Some : goal.returns-in-Some
returns-in-Some c =
    let there = sym (sym (ap (option_map (λ e. e.now)) c.in-Some.is) ∙ c.event.ensures) in
    let here : c.args.number ≡ c.args.place.site = search rules in
    on_ok_weaker c.push_filled_by.result
    (filled_there c.args.site.now.events c.args.number c.args.at c.args.place c.in-Some.event.now c.body.result.now c.args.found.now.items c.push_filled_by.new.found.items here there c.body.ensures.value)
    c.push_filled_by.ensures
