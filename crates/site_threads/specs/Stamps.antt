-- Counts of a record, of which every step that changes it changes one.
use Rattle.std.specs.Prelude.{length}
use Rattle.std.specs.FinMap.{entries}
use Rattle.site_core.specs.Records.{Record}
use Rattle.site_threads.specs.declared.stamps.Stamp.{Stamp}

abbrev pub stamp : Record → Stamp
stamp r = record { events = length r.captured.events; next_recall = r.engagement.next_recall; seen = length (entries r.engagement.seen); waiting = length (entries r.engagement.outbox) }
