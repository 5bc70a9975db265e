use Rattle.std.proofs.Common.{arith}
use Rattle.std.proofs.lemmas.List.{get_or_default}
use Rattle.gap_core.specs.Used.{IsTakenOnce}
use Rattle.gap_core.proofs.Notings.{all_noted, one_more_noted}
use Rattle.gap_core.proofs.inputs.note_parts.Goals as goal

pub loop-place-preserved : goal.loop-place-preserved
loop-place-preserved c =
    one_more_noted (IsTakenOnce c.args.site.now.events) c.args.places.now c.loop-place.place-index _ c.loop-place-test.true
    (get_or_default c.args.places.now c.loop-place.place-index _ _ (omega (arith, c.loop-place-test.true))) c.args.inputs.now c.loop-place.inputs c.note_part.new.inputs c.loop-place.invariant c.in_ok-note_part.ensures

pub returns : goal.returns
returns c = all_noted (IsTakenOnce c.args.site.now.events) c.args.places.now c.loop-place.place-index c.loop-place-test.false c.args.inputs.now c.loop-place.inputs c.loop-place.invariant
