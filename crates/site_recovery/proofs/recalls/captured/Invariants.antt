use Rattle.std.proofs.Common.{◌≡◌, map, take, Bor}
use Rattle.site_core.specs.Records.{Record}
use Rattle.trace_core.specs.Chains.{sites_at}
use Rattle.site_recovery.proofs.recalls.captured.Given as goal

-- those of the sites so far
abbrev pub invariant-loop-state : goal.invariant-loop-state
invariant-loop-state l = sites_at l.captured.items ≡ map (λ (s : Bor Record). s.now.captured) (take l.state-index l.sites)
