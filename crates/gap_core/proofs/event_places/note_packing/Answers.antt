use Rattle.std.proofs.Common.{◌∙◌, sym, ap}
use Rattle.std.specs.Option.{option_map}
use Rattle.std.proofs.lemmas.Result.{on_ok_weaker}
use Rattle.trace_core.specs.Chains.{sites_at}
use Rattle.gap_core.proofs.LineEventSteps.{no_packing, packing_noted}
use Rattle.gap_core.proofs.event_places.note_packing.Goals as goal

pub returns-in-Some : goal.returns-in-Some
returns-in-Some c = on_ok_weaker c.note_body.result
    (packing_noted (sites_at c.args.sites.now) c.args.site.now c.args.wanted.now c.args.place c.args.index.now c.note_body.new.index c.me.result c.body.result.now c.in-Some.event.now
    (sym (sym (ap (option_map (λ e. e.now)) c.in-Some.is) ∙ c.event.ensures)) c.me.ensures c.body.ensures.value)
    c.note_body.ensures

pub returns-in-None : goal.returns-in-None
returns-in-None c = no_packing (sites_at c.args.sites.now) c.args.site.now c.args.wanted.now c.args.place c.args.index.now (sym (sym (ap (option_map (λ e. e.now)) c.in-None.is) ∙ c.event.ensures))
