use Rattle.std.proofs.Common.{arith}
use Rattle.std.proofs.lemmas.List.{get_or_default}
use Rattle.report_core.specs.Gathering.{PlaceTells}
use Rattle.report_core.proofs.Adding.{one_more, all_added}
use Rattle.report_core.proofs.gathering.add_of_places.Goals as goal

pub loop-place-preserved : goal.loop-place-preserved
loop-place-preserved c =
    one_more (PlaceTells c.args.captured.now.events c.args.site c.args.item.now) c.args.places.now c.loop-place.place-index _ c.args.found.now c.loop-place.found c.add_of_place.new.found c.loop-place-test.true
    (get_or_default c.args.places.now c.loop-place.place-index _ _ (omega (arith, c.loop-place-test.true))) c.loop-place.invariant c.in_ok-add_of_place.ensures

pub returns : goal.returns
returns c = all_added (PlaceTells c.args.captured.now.events c.args.site c.args.item.now) c.args.places.now c.loop-place.place-index c.args.found.now c.loop-place.found c.loop-place-test.false c.loop-place.invariant
