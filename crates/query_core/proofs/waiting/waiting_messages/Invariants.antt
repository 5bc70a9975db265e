use Rattle.std.proofs.Common.{◌≡◌, map, take}
use Rattle.std.specs.List.{flat_map}
use Rattle.site_recovery.specs.Checking.{world_at}
use Rattle.query_core.specs.BySite.{waiting_from}
use Rattle.query_core.proofs.waiting.waiting_messages.Given as goal

-- those of the sites so far
abbrev pub invariant-loop-state : goal.invariant-loop-state
invariant-loop-state l = l.waiting.items ≡ flat_map (waiting_from (world_at l.sites) l.recall) (map (λ r. r.now) (take l.state-index l.sites))
