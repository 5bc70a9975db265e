use Rattle.std.proofs.Common.{sym, ap, ◌∙◌}
use Rattle.std.specs.Option.{option_map}
use Rattle.std.proofs.lemmas.Result.{on_ok_weaker}
use Rattle.report_core.specs.Gathering.{PlaceTells}
use Rattle.report_core.proofs.Adding.{none_added}
use Rattle.report_core.proofs.Outgoing.{place_told, none_at}
use Rattle.report_core.proofs.gathering.add_of_place.Goals as goal

pub returns-in-Some : goal.returns-in-Some
returns-in-Some c =
    let there = sym (sym (ap (option_map (λ e. e.now)) c.in-Some.is) ∙ c.event.ensures) in
    on_ok_weaker c.add_of_body.result
    (place_told c.args.captured.now.events c.args.site c.args.item.now c.args.place c.in-Some.event.now c.body.result.now c.args.found.now c.add_of_body.new.found there c.body.ensures.value)
    c.add_of_body.ensures

pub returns-in-None : goal.returns-in-None
returns-in-None c = none_added c.args.found.now (PlaceTells c.args.captured.now.events c.args.site c.args.item.now c.args.place)
    (none_at c.args.captured.now.events c.args.site c.args.item.now c.args.place (sym (sym (ap (option_map (λ e. e.now)) c.in-None.is) ∙ c.event.ensures)))
