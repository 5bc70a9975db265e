use Rattle.std.proofs.Common.{◌∙◌, sym, ap}
use Rattle.std.specs.Option.{option_map}
use Rattle.std.proofs.lemmas.Result.{on_ok_weaker}
use Rattle.gap_core.specs.LineEvents.{Holds, IsWantedOf}
use Rattle.gap_core.specs.declared.event_places.Kind.TheVariants.{LastShipment}
use Rattle.gap_core.proofs.Turns.{adds_at, none_at}
use Rattle.gap_core.proofs.event_places.note_sent_at.Goals as goal

pub returns-in-Some : goal.returns-in-Some
returns-in-Some c = on_ok_weaker c.note_wanted.result
    (adds_at c.args.sent.now (IsWantedOf LastShipment c.args.me c.args.wanted.now c.args.place) c.args.turn c.in-Some.item.now (Holds LastShipment c.args.index.now) (Holds LastShipment c.note_wanted.new.index)
    (sym (sym (ap (option_map (λ i. i.now)) c.in-Some.is) ∙ c.get.ensures)))
    c.note_wanted.ensures

pub returns-in-None : goal.returns-in-None
returns-in-None c = none_at c.args.sent.now (IsWantedOf LastShipment c.args.me c.args.wanted.now c.args.place) c.args.turn (Holds LastShipment c.args.index.now)
    (sym (ap (option_map (λ i. i.now)) c.in-None.is) ∙ c.get.ensures)
