use Rattle.std.proofs.Common.{◌≡◌, map, take}
use Rattle.site_recovery.specs.Recalls.{quarantined}
use Rattle.site_recovery.proofs.recalls.quarantined.Given as goal

abbrev pub invariant-loop-state : goal.invariant-loop-state
invariant-loop-state l = l.pairs.items ≡ quarantined l.recall (map (λ s. s.now) (take l.state-index l.sites))
