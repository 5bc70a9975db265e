use Rattle.std.proofs.Common.{◌≡◌, map, take}
use Rattle.std.specs.List.{sum_by}
use Rattle.query_core.specs.Recalls.{waiting_count}
use Rattle.query_core.proofs.waiting.waiting_in.Given as goal

-- those of the sites so far
abbrev pub invariant-loop-state : goal.invariant-loop-state
invariant-loop-state l = l.count ≡ sum_by (waiting_count l.recall) (map (λ r. r.now) (take l.state-index l.sites))
