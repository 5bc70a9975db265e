use Rattle.std.proofs.Common.{sym, ap, ◌∙◌}
use Rattle.std.specs.Option.{option_map}
use Rattle.std.proofs.lemmas.Result.{on_ok_weaker}
use Rattle.report_core.proofs.SourcesFound.{event_taken}
use Rattle.report_core.proofs.sources.push_part.Goals as goal

pub returns-in-Some : goal.returns-in-Some
returns-in-Some c =
    let there = sym (sym (ap (option_map (λ e. e.now)) c.in-Some.is) ∙ c.event.ensures) in
    on_ok_weaker c.push_taken.result
    (event_taken c.args.site.now c.args.found.now.items c.push_taken.new.found.items c.args.place c.in-Some.event.now c.me.result c.body.result.now there c.me.ensures c.body.ensures.value)
    c.push_taken.ensures
