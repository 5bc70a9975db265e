use Rattle.std.proofs.Common.{◌∙◌, sym, ap}
use Rattle.std.specs.Option.{option_map}
use Rattle.std.proofs.lemmas.Result.{on_ok_weaker}
use Rattle.gap_core.proofs.PlaceLists.{event_kept}
use Rattle.gap_core.proofs.outside.note_event.Goals as goal

pub returns-in-Some : goal.returns-in-Some
returns-in-Some c = on_ok_weaker c.note_body.result
    (event_kept c.args.outside.now c.note_body.new.outside c.args.site.now.events c.args.place c.in-Some.event.now c.body.result.now
    (sym (sym (ap (option_map (λ e. e.now)) c.in-Some.is) ∙ c.event.ensures)) c.body.ensures.value)
    c.note_body.ensures
