use Rattle.std.proofs.Common.{◌≡◌, ◌+◌, ◌<◌, ◌^◌, length, true}
use Rattle.std.specs.Vec.Iter.{into_iter_items}
use Rattle.site_core.specs.Shortcuts.{IsClosedInside}
use Rattle.site_core.proofs.Captures.{SoFar}
use Rattle.site_core.proofs.capturing.capture_each.Given as goal

-- the events so far were captured
abbrev pub invariant-loop-event : goal.invariant-loop-event
invariant-loop-event l = record {
  can : (goal.iterator-loop-event).can_next l.event-iterator;
  finite : (goal.iterator-loop-event).is_finite l.event-iterator;
  so_far : SoFar l.initial.captured l.quarantine l.fn.given.items l.captured l.added.fresh l.added.known (into_iter_items l.event-iterator);
  counted : l.added.fresh + l.added.known + length (into_iter_items l.event-iterator) ≡ length l.fn.given.items;
  small : length l.fn.given.items < 2 ^ 64;
  closed : l.closed ≡ true → IsClosedInside l.captured l.quarantine;
}
