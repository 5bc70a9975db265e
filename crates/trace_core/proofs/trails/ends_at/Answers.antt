use Rattle.std.proofs.Common.{◌+◌, take, sym, subst}
use Rattle.std.specs.List.{AllZip}
use Rattle.trace_core.specs.Trails.{IsPlaceOf}
use Rattle.trace_core.proofs.Zips.{zip_more}
use Rattle.trace_core.proofs.trails.ends_at.Goals as goal

pub loop-pair-preserved : goal.loop-pair-preserved
loop-pair-preserved c =
    let is_end = IsPlaceOf c.args.steps.now in
    subst (AllZip is_end (take (c.loop-pair.pair-index + 1) c.args.pairs.now)) (sym c.in_ok-push.ensures.items)
    (zip_more is_end c.args.pairs.now c.loop-pair.ends.items c.loop-pair.pair-index c.pair-item.result c.place_of.result c.loop-pair-test.true c.pair-item.is c.loop-pair.invariant
    c.place_of.ensures)
