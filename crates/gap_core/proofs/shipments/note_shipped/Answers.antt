use Rattle.std.proofs.Common.{◌∙◌, sym, ap}
use Rattle.std.specs.Option.{option_map}
use Rattle.std.proofs.lemmas.Result.{on_ok_weaker}
use Rattle.gap_core.specs.Shipments.{shipped_in}
use Rattle.gap_core.proofs.ShippedItems.{event_noted}
use Rattle.gap_core.proofs.shipments.note_shipped.Goals as goal

pub returns-in-Some : goal.returns-in-Some
returns-in-Some c = on_ok_weaker c.note_items.result
    (event_noted c.args.site.now.events c.args.place c.in-Some.event.now c.shipped_in.result.now (sym (sym (ap (option_map (λ e. e.now)) c.in-Some.is) ∙ c.event.ensures))
    (c.shipped_in.ensures ∙ ap shipped_in c.body.ensures.value) c.args.items.now c.note_items.new.items)
    c.note_items.ensures
