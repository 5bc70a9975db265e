use Rattle.std.proofs.Common.{arith}
use Rattle.std.specs.List.{Contains}
use Rattle.trace_core.specs.Chains.{sites_at}
use Rattle.gap_core.specs.Adding.{ByOneAt}
use Rattle.gap_core.specs.Unlinked.{IsUnlinkedIn}
use Rattle.gap_core.proofs.Additions.{more_before}
use Rattle.gap_core.proofs.Turns.{all_at}
use Rattle.gap_core.proofs.unlinked.note_containers.Goals as goal

pub loop-place-preserved : goal.loop-place-preserved
loop-place-preserved c =
    more_before (ByOneAt c.args.sent.now (IsUnlinkedIn (sites_at c.args.sites.now) c.args.at)) c.loop-place.place (Contains c.args.found.now.items) (Contains c.loop-place.found.items) (Contains c.note_container_at.new.found.items)
    c.loop-place.invariant c.in_ok-note_container_at.ensures

pub returns : goal.returns
returns c =
    all_at c.args.sent.now (IsUnlinkedIn (sites_at c.args.sites.now) c.args.at) c.loop-place.place (Contains c.args.found.now.items) (Contains c.loop-place.found.items)
    (omega (arith, c.loop-place-test.false, c.len-place-end.ensures)) c.loop-place.invariant
