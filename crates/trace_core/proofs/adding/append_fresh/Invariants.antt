use Rattle.std.proofs.Common.{◌≡◌, ◌+◌, ◌<◌, ◌^◌, length, take}
use Rattle.std.specs.Vec.Iter.{into_iter_items}
use Rattle.trace_core.proofs.AddingSteps.{counted_on, stepwise}
use Rattle.trace_core.proofs.adding.append_fresh.Given as goal

-- what is counted so far, and what the rest makes, is what all of it makes
abbrev pub invariant-loop-event : goal.invariant-loop-event
invariant-loop-event l = record {
  can : (goal.iterator-loop-event).can_next l.event-iterator;
  finite : (goal.iterator-loop-event).is_finite l.event-iterator;
  front : take (length l.initial.events) l.events ≡ l.initial.events;
  told : counted_on l.added.fresh l.added.known (stepwise l.events (into_iter_items l.event-iterator)) ≡ stepwise l.initial.events l.fn.given.items;
  counted : l.added.fresh + l.added.known + length (into_iter_items l.event-iterator) ≡ length l.fn.given.items;
  small : length l.fn.given.items < 2 ^ 64;
}
