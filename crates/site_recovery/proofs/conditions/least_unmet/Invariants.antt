use Rattle.std.proofs.Common.{ℕ, ◌<◌}
use Rattle.site_recovery.specs.Checking.{world_at}
use Rattle.site_recovery.proofs.conditions.least_unmet.Given as goal

-- the sites so far meet it
abbrev pub invariant-loop-state : goal.invariant-loop-state
invariant-loop-state g l = (s : ℕ) → s < l.state-index → g.C.Condition.holds l.condition (world_at l.sites) s
