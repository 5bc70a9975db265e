use Rattle.std.proofs.Common.{arith}
use Rattle.gap_core.specs.Sources.{IsFilledAt, Keeps}
use Rattle.gap_core.proofs.Additions.{more_before}
use Rattle.gap_core.proofs.SourceLists.{all_filled}
use Rattle.gap_core.proofs.searches.note_own.Goals as goal

pub loop-place-preserved : goal.loop-place-preserved
loop-place-preserved c =
    more_before (IsFilledAt c.args.site.now.events c.args.at) c.loop-place.place (Keeps c.args.index.now) (Keeps c.loop-place.index) (Keeps c.note_event.new.index) c.loop-place.invariant c.in_ok-note_event.ensures

pub returns : goal.returns
returns c = all_filled c.args.index.now c.loop-place.index c.args.site.now c.args.at c.loop-place.place (omega (arith, c.loop-place-test.false, c.len-place-end.ensures)) c.loop-place.invariant
