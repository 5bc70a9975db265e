use Rattle.std.proofs.Common.{arith}
use Rattle.std.specs.List.{Contains}
use Rattle.trace_core.specs.Chains.{sites_at}
use Rattle.gap_core.specs.GapItems.{IsGapOfAt}
use Rattle.gap_core.proofs.Additions.{more_before}
use Rattle.gap_core.proofs.GapSteps.{all_container_gaps}
use Rattle.gap_core.proofs.site_gaps.note_gaps_of.Goals as goal

pub loop-place-preserved : goal.loop-place-preserved
loop-place-preserved c =
    more_before (IsGapOfAt (sites_at c.args.sites.now) c.args.at c.args.sent.now c.args.told.now) c.loop-place.place (Contains c.args.gaps.now.items) (Contains c.loop-place.gaps.items) (Contains c.note_gaps_at.new.gaps.items)
    c.loop-place.invariant c.in_ok-note_gaps_at.ensures

pub returns : goal.returns
returns c =
    all_container_gaps (sites_at c.args.sites.now) c.args.at c.args.sent.now c.args.told.now c.loop-place.place c.args.gaps.now.items c.loop-place.gaps.items
    (omega (arith, c.loop-place-test.false, c.len-place-end.ensures)) c.loop-place.invariant
