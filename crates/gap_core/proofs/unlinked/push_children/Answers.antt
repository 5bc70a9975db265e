use Rattle.std.proofs.Common.{arith}
use Rattle.std.specs.List.{Contains}
use Rattle.gap_core.specs.Adding.{ByOneAt}
use Rattle.gap_core.specs.Unlinked.{IsUnknownItem}
use Rattle.gap_core.proofs.Additions.{more_before}
use Rattle.gap_core.proofs.Turns.{all_at}
use Rattle.gap_core.proofs.unlinked.push_children.Goals as goal

pub loop-place-preserved : goal.loop-place-preserved
loop-place-preserved c =
    more_before (ByOneAt c.args.children.now (IsUnknownItem c.args.site c.args.container.now c.args.by c.args.inside.now)) c.loop-place.place (Contains c.args.found.now.items) (Contains c.loop-place.found.items) (Contains c.push_child_at.new.found.items)
    c.loop-place.invariant c.in_ok-push_child_at.ensures

pub returns : goal.returns
returns c =
    all_at c.args.children.now (IsUnknownItem c.args.site c.args.container.now c.args.by c.args.inside.now) c.loop-place.place (Contains c.args.found.now.items) (Contains c.loop-place.found.items)
    (omega (arith, c.loop-place-test.false, c.len-place-end.ensures)) c.loop-place.invariant
