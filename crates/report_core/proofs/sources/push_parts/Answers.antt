use Rattle.std.proofs.Common.{arith}
use Rattle.std.specs.List.{Contains}
use Rattle.std.proofs.lemmas.List.{get_or_default}
use Rattle.report_core.specs.Sources.{IsInputAt}
use Rattle.report_core.proofs.Additions.{one_more, all_added}
use Rattle.report_core.proofs.sources.push_parts.Goals as goal

pub loop-place-preserved : goal.loop-place-preserved
loop-place-preserved c =
    one_more (IsInputAt c.args.site.now) c.args.places.now c.loop-place.place-index (Contains c.args.found.now.items) (Contains c.loop-place.found.items) (Contains c.push_part.new.found.items)
    _ c.loop-place-test.true (get_or_default c.args.places.now c.loop-place.place-index 0 _ (omega (arith, c.loop-place-test.true))) c.loop-place.invariant c.in_ok-push_part.ensures

pub returns : goal.returns
returns c =
    all_added (IsInputAt c.args.site.now) c.args.places.now c.loop-place.place-index (Contains c.args.found.now.items) (Contains c.loop-place.found.items) c.loop-place-test.false c.loop-place.invariant
