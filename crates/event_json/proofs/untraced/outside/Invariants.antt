use Rattle.std.proofs.Common.{◌≡◌, ◌≤◌, ◌*◌, length, sum_by, take}
use Rattle.event_json.specs.Untraced.{outside_of}
use Rattle.event_json.proofs.untraced.outside.Given as goal

abbrev pub invariant-loop-event : goal.invariant-loop-event
invariant-loop-event l = record {
  counted : l.outside ≡ sum_by (λ e. length (outside_of e.body)) (take l.event-index l.events);
  bound : l.outside ≤ l.event-index * 1000;
}
