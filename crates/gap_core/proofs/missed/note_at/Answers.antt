use Rattle.std.proofs.Common.{◌∙◌, sym, ap}
use Rattle.std.specs.Option.{option_map}
use Rattle.std.proofs.lemmas.Result.{on_ok_weaker}
use Rattle.trace_core.specs.Chains.{sites_at}
use Rattle.gap_core.proofs.MissedSteps.{item_at, no_item_at}
use Rattle.gap_core.proofs.missed.note_at.Goals as goal

pub returns-in-Some : goal.returns-in-Some
returns-in-Some c = on_ok_weaker c.note_item.result
    (item_at (sites_at c.args.sites.now) c.args.at c.args.told.now c.args.sent.now c.args.place c.in-Some.item.now c.args.missed.now.items c.note_item.new.missed.items
    (sym (sym (ap (option_map (λ i. i.now)) c.in-Some.is) ∙ c.get.ensures)))
    c.note_item.ensures

pub returns-in-None : goal.returns-in-None
returns-in-None c = no_item_at (sites_at c.args.sites.now) c.args.at c.args.told.now c.args.sent.now c.args.place c.args.missed.now.items
    (sym (ap (option_map (λ i. i.now)) c.in-None.is) ∙ c.get.ensures)
