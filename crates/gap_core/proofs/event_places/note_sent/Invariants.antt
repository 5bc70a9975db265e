use Rattle.gap_core.specs.Adding.{AddsTo, ByOneAt}
use Rattle.gap_core.specs.LineEvents.{Holds, IsWantedOf}
use Rattle.gap_core.specs.declared.event_places.Kind.TheVariants.{LastShipment}
use Rattle.gap_core.proofs.Additions.{Before}
use Rattle.gap_core.proofs.event_places.note_sent.Given as goal

-- those of the items so far
abbrev pub invariant-loop-turn : goal.invariant-loop-turn
invariant-loop-turn l = AddsTo (Holds LastShipment l.fn.index) (Holds LastShipment l.index) (Before l.turn (ByOneAt l.sent (IsWantedOf LastShipment l.me l.wanted l.place)))
