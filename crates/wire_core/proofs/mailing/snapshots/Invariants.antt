use Rattle.std.proofs.Common.{◌≡◌, map, take}
use Rattle.wire_core.proofs.mailing.snapshots.Given as goal

abbrev pub invariant-loop-record : goal.invariant-loop-record
invariant-loop-record l = map (λ s. s.value) l.opening.items ≡ map (λ r. r.now) (take l.record-index l.records)
