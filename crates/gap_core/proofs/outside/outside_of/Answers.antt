use Rattle.std.proofs.Common.{arith}
use Rattle.gap_core.specs.Batches.{IsOutsideAt, KeepsPlace}
use Rattle.gap_core.proofs.Additions.{more_before}
use Rattle.gap_core.proofs.PlaceLists.{all_outside}
use Rattle.gap_core.proofs.outside.outside_of.Goals as goal

pub loop-place-preserved : goal.loop-place-preserved
loop-place-preserved c =
    more_before (IsOutsideAt c.args.site.now.events) c.loop-place.place (λ m. ⊥) (KeepsPlace c.loop-place.outside) (KeepsPlace c.note_event.new.outside) c.loop-place.invariant c.in_ok-note_event.ensures

pub returns : goal.returns
returns c = all_outside c.loop-place.outside c.args.site.now.events c.loop-place.place (omega (arith, c.loop-place-test.false, c.len-place-end.ensures)) c.loop-place.invariant
