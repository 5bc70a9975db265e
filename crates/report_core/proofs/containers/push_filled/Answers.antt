use Rattle.std.proofs.Common.{arith}
use Rattle.std.specs.List.{Contains}
use Rattle.std.proofs.lemmas.List.{get_or_default}
use Rattle.report_core.specs.Containers.{IsFilledAt}
use Rattle.report_core.proofs.Additions.{one_more, all_added}
use Rattle.report_core.proofs.containers.push_filled.Goals as goal

pub loop-place-preserved : goal.loop-place-preserved
loop-place-preserved c =
    one_more (IsFilledAt c.args.site.now.events c.args.number c.args.at) c.args.places.now c.loop-place.place-index (Contains c.args.found.now.items) (Contains c.loop-place.found.items) (Contains c.push_filled_at.new.found.items)
    _ c.loop-place-test.true (get_or_default c.args.places.now c.loop-place.place-index _ _ (omega (arith, c.loop-place-test.true))) c.loop-place.invariant c.in_ok-push_filled_at.ensures

pub returns : goal.returns
returns c =
    all_added (IsFilledAt c.args.site.now.events c.args.number c.args.at) c.args.places.now c.loop-place.place-index (Contains c.args.found.now.items) (Contains c.loop-place.found.items) c.loop-place-test.false c.loop-place.invariant
