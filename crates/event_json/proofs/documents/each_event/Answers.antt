use Rattle.std.proofs.Common.{arith}
use Rattle.event_json.specs.Documents.{events_of}
use Rattle.event_json.proofs.Gathered.{gather_none}
use Rattle.event_json.proofs.documents.each_event.Goals as goal

pub loop-place-init : goal.loop-place-init
unfolding events_of
loop-place-init c = record { found = rw c.new-events.ensures.items (gather_none _); bound = omega arith }
