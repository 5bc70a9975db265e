use Rattle.std.proofs.Common.{arith}
use Rattle.trace_core.specs.Chains.{sites_at}
use Rattle.gap_core.specs.LineEvents.{EventDoes, Holds}
use Rattle.gap_core.proofs.Additions.{more_before}
use Rattle.gap_core.proofs.LineEventSteps.{all_events}
use Rattle.gap_core.proofs.event_places.note_events.Goals as goal

pub loop-place-preserved : goal.loop-place-preserved
loop-place-preserved c =
    more_before (EventDoes c.args.kind (sites_at c.args.sites.now) c.args.site.now c.args.wanted.now) c.loop-place.place (Holds c.args.kind c.args.index.now) (Holds c.args.kind c.loop-place.index) (Holds c.args.kind c.note_event.new.index)
    c.loop-place.invariant c.in_ok-note_event.ensures

pub returns : goal.returns
returns c =
    all_events c.args.kind (sites_at c.args.sites.now) c.args.site.now c.args.wanted.now c.loop-place.place c.args.index.now c.loop-place.index (omega (arith, c.loop-place-test.false, c.len-place-end.ensures)) c.loop-place.invariant
