use Rattle.std.specs.List.{Contains}
use Rattle.trace_core.specs.Chains.{sites_at}
use Rattle.gap_core.specs.Touched.{IsTouchedOne}
use Rattle.gap_core.proofs.Additions.{all_added, one_more}
use Rattle.gap_core.proofs.touched.note_gaps.Goals as goal

pub loop-gap-preserved : goal.loop-gap-preserved
loop-gap-preserved c =
    one_more (IsTouchedOne (sites_at c.args.sites.now) c.args.at c.args.wanted.now) c.args.gaps.now c.loop-gap.gap-index (Contains c.args.touched.now.items) (Contains c.loop-gap.touched.items) (Contains c.note_gap.new.touched.items)
    c.gap-item.result c.loop-gap-test.true c.gap-item.is c.loop-gap.invariant c.in_ok-note_gap.ensures

pub returns : goal.returns
returns c =
    all_added (IsTouchedOne (sites_at c.args.sites.now) c.args.at c.args.wanted.now) c.args.gaps.now c.loop-gap.gap-index (Contains c.args.touched.now.items) (Contains c.loop-gap.touched.items) c.loop-gap-test.false c.loop-gap.invariant
