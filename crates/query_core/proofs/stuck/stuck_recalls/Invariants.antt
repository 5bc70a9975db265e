use Rattle.std.proofs.Common.{◌≡◌, map, take}
use Rattle.std.specs.List.{flat_map}
use Rattle.query_core.specs.Stuck.{stuck_from}
use Rattle.query_core.proofs.stuck.stuck_recalls.Given as goal

-- those of the sites so far
abbrev pub invariant-loop-state : goal.invariant-loop-state
invariant-loop-state l = l.stuck.items ≡ flat_map stuck_from (map (λ r. r.now) (take l.state-index l.sites))
