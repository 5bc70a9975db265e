use Rattle.std.proofs.Common.{arith}
use Rattle.std.specs.List.{Contains}
use Rattle.gap_core.specs.Adding.{ByOneAt}
use Rattle.gap_core.specs.Unseen.{IsUnseenOf}
use Rattle.gap_core.proofs.Additions.{more_before}
use Rattle.gap_core.proofs.Turns.{all_at}
use Rattle.gap_core.proofs.unseen.note_all.Goals as goal

pub loop-place-preserved : goal.loop-place-preserved
loop-place-preserved c =
    more_before (ByOneAt c.args.sent.now (IsUnseenOf c.args.from c.args.to.now)) c.loop-place.place (Contains c.args.items.now.items) (Contains c.loop-place.items.items) (Contains c.note_at.new.items.items)
    c.loop-place.invariant c.in_ok-note_at.ensures

pub returns : goal.returns
returns c =
    all_at c.args.sent.now (IsUnseenOf c.args.from c.args.to.now) c.loop-place.place (Contains c.args.items.now.items) (Contains c.loop-place.items.items)
    (omega (arith, c.loop-place-test.false, c.len-place-end.ensures)) c.loop-place.invariant
