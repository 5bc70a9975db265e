use Rattle.std.proofs.Common.{arith}
use Rattle.std.specs.List.{Contains}
use Rattle.gap_core.proofs.Additions.{more_before}
use Rattle.gap_core.proofs.GapSteps.{IsGapOfChild, all_child_gaps}
use Rattle.gap_core.proofs.site_gaps.note_gaps.Goals as goal

pub loop-place-preserved : goal.loop-place-preserved
loop-place-preserved c =
    more_before (IsGapOfChild c.args.site c.args.container.now c.args.told.now c.args.packed.now c.args.packers.now c.args.children.now) c.loop-place.place (Contains c.args.gaps.now.items) (Contains c.loop-place.gaps.items) (Contains c.note_gap_at.new.gaps.items)
    c.loop-place.invariant c.in_ok-note_gap_at.ensures

pub returns : goal.returns
returns c =
    all_child_gaps c.args.site c.args.container.now c.args.told.now c.args.packed.now c.args.packers.now c.args.children.now c.loop-place.place c.args.gaps.now.items c.loop-place.gaps.items
    (omega (arith, c.loop-place-test.false, c.len-place-end.ensures)) c.loop-place.invariant
