use Rattle.std.proofs.Common.{◌∙◌, sym}
use mathlib.Core.Bool.{false≢true}
use Rattle.gap_core.proofs.LineEventSteps.{place_held, place_noted}
use Rattle.gap_core.proofs.event_places.note_place.Goals as goal

pub returns-then-holds : goal.returns-then-holds
returns-then-holds c = place_held c.args.kind c.args.index.now c.args.pair c.args.place (c.holds.ensures.0 c.if-holds.true)

pub returns : goal.returns
returns c = place_noted c.args.kind c.args.index.now c.insert.new.self c.args.pair c.args.place c.in_ok-insert.ensures.updates
    (λ held. false≢true (sym c.if-holds.false ∙ c.holds.ensures.1 held))
