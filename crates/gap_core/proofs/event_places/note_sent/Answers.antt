use Rattle.std.proofs.Common.{arith}
use Rattle.gap_core.specs.Adding.{ByOneAt}
use Rattle.gap_core.specs.LineEvents.{Holds, IsWantedOf}
use Rattle.gap_core.specs.declared.event_places.Kind.TheVariants.{LastShipment}
use Rattle.gap_core.proofs.Additions.{more_before}
use Rattle.gap_core.proofs.Turns.{all_at}
use Rattle.gap_core.proofs.event_places.note_sent.Goals as goal

pub loop-turn-preserved : goal.loop-turn-preserved
loop-turn-preserved c =
    more_before (ByOneAt c.args.sent.now (IsWantedOf LastShipment c.args.me c.args.wanted.now c.args.place)) c.loop-turn.turn (Holds LastShipment c.args.index.now) (Holds LastShipment c.loop-turn.index) (Holds LastShipment c.note_sent_at.new.index)
    c.loop-turn.invariant c.in_ok-note_sent_at.ensures

pub returns : goal.returns
returns c =
    all_at c.args.sent.now (IsWantedOf LastShipment c.args.me c.args.wanted.now c.args.place) c.loop-turn.turn (Holds LastShipment c.args.index.now) (Holds LastShipment c.loop-turn.index)
    (omega (arith, c.loop-turn-test.false, c.len-turn-end.ensures)) c.loop-turn.invariant
