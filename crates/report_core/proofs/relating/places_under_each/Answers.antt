use Rattle.std.proofs.Common.{inr, subst, ⊎_elim}
use Rattle.std.specs.List.{Contains}
use Rattle.trace_core.proofs.Members.{contains_none}
use Rattle.report_core.specs.Leaving.{StandsUnder}
use Rattle.report_core.specs.Sources.{AddsToList}
use Rattle.report_core.proofs.Additions.{adds_all, one_more, all_added}
use Rattle.report_core.proofs.relating.places_under_each.Goals as goal

pub loop-pair-preserved : goal.loop-pair-preserved
loop-pair-preserved c =
    one_more (StandsUnder c.args.index.now) c.args.pairs.now c.loop-pair.pair-index (Contains c.new-places.result.items) (Contains c.loop-pair.places.items) (Contains c.extend_from_slice.new.self.items)
    c.pair-item.result c.loop-pair-test.true c.pair-item.is c.loop-pair.invariant
    (subst (λ ps. AddsToList c.loop-pair.places.items c.extend_from_slice.new.self.items (Contains ps)) c.places_under.ensures
    (adds_all c.loop-pair.places.items c.extend_from_slice.new.self.items c.places_under.result.now c.in_ok-extend_from_slice.ensures.items))

pub returns : goal.returns
returns c p =
    let adds = all_added (StandsUnder c.args.index.now) c.args.pairs.now c.loop-pair.pair-index (Contains c.new-places.result.items) (Contains c.loop-pair.places.items) c.loop-pair-test.false c.loop-pair.invariant p in (
      λ h. ⊎_elim (λ was. absurd (contains_none p (subst (λ ps. Contains ps p) c.new-places.ensures.items was))) (λ one. one) (adds.0 h),
      λ one. adds.1 (inr one),
    )
