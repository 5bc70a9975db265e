use Rattle.std.proofs.Common.{◌≡◌, map, take}
use Rattle.std.specs.List.{flat_map}
use Rattle.query_core.specs.BySite.{standings_at}
use Rattle.query_core.proofs.standings.standings.Given as goal

-- those of the sites so far
abbrev pub invariant-loop-state : goal.invariant-loop-state
invariant-loop-state l = l.standings.items ≡ flat_map (standings_at l.recall) (map (λ r. r.now) (take l.state-index l.sites))
