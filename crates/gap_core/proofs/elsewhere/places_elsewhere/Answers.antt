use Rattle.std.proofs.Common.{[], arith}
use Rattle.std.specs.List.{Contains}
use Rattle.gap_core.specs.Elsewhere.{IsPlaceElsewhere}
use Rattle.gap_core.proofs.Additions.{more_before}
use Rattle.gap_core.proofs.ElsewhereSteps.{all_elsewhere}
use Rattle.gap_core.proofs.elsewhere.places_elsewhere.Goals as goal

pub loop-place-preserved : goal.loop-place-preserved
loop-place-preserved c =
    more_before (IsPlaceElsewhere c.args.site.now) c.loop-place.place (Contains []) (Contains c.loop-place.places) (Contains c.note_place.new.places) c.loop-place.invariant c.in_ok-note_place.ensures

pub returns : goal.returns
returns c = all_elsewhere c.args.site.now c.loop-place.place c.loop-place.places (omega (arith, c.loop-place-test.false, c.len-place-end.ensures)) c.loop-place.invariant
