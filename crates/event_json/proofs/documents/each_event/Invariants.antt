use Rattle.std.proofs.Common.{◌≡◌, ◌≤◌, ◌+◌, drop}
use Rattle.serde_json.specs.View.{items_view}
use Rattle.event_json.specs.Members.{each}
use Rattle.event_json.specs.Documents.{numbered_event, events_of}
use Rattle.event_json.proofs.Gathered.{gather}
use Rattle.event_json.proofs.documents.each_event.Given as goal

abbrev pub invariant-loop-place : goal.invariant-loop-place
invariant-loop-place l = record {
  found : gather l.events.items l.skipped (each (numbered_event l.sites) (l.place + 1) (items_view (drop l.place l.list))) ≡ events_of l.sites (items_view l.list);
  bound : l.skipped ≤ l.place;
}
