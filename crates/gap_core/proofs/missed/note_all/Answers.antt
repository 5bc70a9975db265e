use Rattle.std.proofs.Common.{arith}
use Rattle.std.specs.List.{Contains}
use Rattle.trace_core.specs.Chains.{sites_at}
use Rattle.gap_core.specs.Missed.{IsMissedOfAt}
use Rattle.gap_core.proofs.Additions.{more_before}
use Rattle.gap_core.proofs.MissedSteps.{all_items}
use Rattle.gap_core.proofs.missed.note_all.Goals as goal

pub loop-place-preserved : goal.loop-place-preserved
loop-place-preserved c =
    more_before (IsMissedOfAt (sites_at c.args.sites.now) c.args.at c.args.sent.now c.args.told.now) c.loop-place.place (Contains c.args.missed.now.items) (Contains c.loop-place.missed.items) (Contains c.note_at.new.missed.items)
    c.loop-place.invariant c.in_ok-note_at.ensures

pub returns : goal.returns
returns c =
    all_items (sites_at c.args.sites.now) c.args.at c.args.told.now c.args.sent.now c.loop-place.place c.args.missed.now.items c.loop-place.missed.items
    (omega (arith, c.loop-place-test.false, c.len-place-end.ensures)) c.loop-place.invariant
