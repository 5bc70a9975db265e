use Rattle.std.proofs.Common.{◌≡◌, ◌≤◌, count_by, is_none, take}
use Rattle.event_json.proofs.untraced.unnamed.Given as goal

abbrev pub invariant-loop-event : goal.invariant-loop-event
invariant-loop-event l = record {
  counted : l.unnamed ≡ count_by (λ e. is_none e.id) (take l.event-index l.events);
  bound : l.unnamed ≤ l.event-index;
}
