use Rattle.std.proofs.Common.{◌∙◌, sym}
use mathlib.Core.Bool.{false≢true}
use Rattle.std.proofs.lemmas.Result.{on_ok_weaker}
use Rattle.gap_core.proofs.LineEventSteps.{unwanted, wanted_noted}
use Rattle.gap_core.proofs.event_places.note_wanted.Goals as goal

pub returns-then-not-has : goal.returns-then-not-has
returns-then-not-has c = unwanted c.args.kind c.args.index.now c.args.me c.args.wanted.now c.args.place c.args.item.now (λ there. false≢true (sym c.if-not-has.true ∙ c.has.ensures.1 there))

pub returns : goal.returns
returns c = on_ok_weaker c.note_place.result
    (wanted_noted c.args.kind c.args.index.now c.args.me c.args.wanted.now c.args.place c.note_place.new.index c.args.item.now c.in_ok-pair.pair (c.has.ensures.0 c.if-not-has.false) c.in_ok-pair.ensures)
    c.note_place.ensures
