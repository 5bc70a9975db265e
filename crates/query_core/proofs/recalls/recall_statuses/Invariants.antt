use Rattle.std.proofs.Common.{◌≡◌, map, take}
use Rattle.std.specs.List.{flat_map}
use Rattle.site_recovery.specs.Checking.{records_at}
use Rattle.query_core.specs.BySite.{statuses_by}
use Rattle.query_core.proofs.recalls.recall_statuses.Given as goal

-- those of the sites so far
abbrev pub invariant-loop-state : goal.invariant-loop-state
invariant-loop-state l = l.statuses.items ≡ flat_map (statuses_by (records_at l.sites)) (map (λ r. r.now) (take l.state-index l.sites))
