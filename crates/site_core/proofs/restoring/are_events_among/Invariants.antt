use Rattle.event_json.specs.Sites.{ShipsAmong}
use Rattle.site_core.proofs.EventsAmong.{PassesBelow}
use Rattle.site_core.proofs.restoring.are_events_among.Given as goal

-- the events below the place ship among the sites
abbrev pub invariant-loop-place : goal.invariant-loop-place
invariant-loop-place l = PassesBelow (λ e. ShipsAmong l.sites e.body) l.captured.events l.place
