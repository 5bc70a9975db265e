use Rattle.std.proofs.Common.{◌+◌, List, drop}
use Rattle.serde_json.specs.View.{items_view}
use Rattle.event_json.specs.Documents.{numbered_event, events_of}
use Rattle.event_json.specs.Members.{each}
use Rattle.event_json.specs.Sites.{Site}
use Rattle.event_json.proofs.Carried.{Carries}
use Rattle.event_json.proofs.event_checks.check_events.Given as goal

abbrev pub invariant-loop-place : goal.invariant-loop-place
invariant-loop-place l = (sites : List Site)
    → Carries (each (numbered_event sites) (l.place + 1) (items_view (drop l.place l.list))) (events_of sites (items_view l.list))
