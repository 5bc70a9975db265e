use Rattle.std.proofs.Common.{map, take}
use Rattle.frame_core.specs.Identifiers.{recall_cmp}
use Rattle.frame_core.specs.Tables.{as_map}
use Rattle.query_core.specs.BySite.{AreWaitingCounts}
use Rattle.query_core.proofs.waiting.waiting_counts.Given as goal

-- those of the sites so far
abbrev pub invariant-loop-state : goal.invariant-loop-state
invariant-loop-state l = AreWaitingCounts (map (λ r. r.now) (take l.state-index l.sites)) (as_map recall_cmp l.counts)
