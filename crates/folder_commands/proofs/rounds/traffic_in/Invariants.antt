use Rattle.std.proofs.Common.{◌≡◌, map, take}
use Rattle.std.specs.List.{flat_map}
use Rattle.folder_commands.specs.Runs.{traffic_of}
use Rattle.folder_commands.proofs.rounds.traffic_in.Given as goal

abbrev pub invariant-loop-record : goal.invariant-loop-record
invariant-loop-record l = l.traffic.items ≡ flat_map traffic_of (map (λ r. r.now) (take l.record-index l.records))
