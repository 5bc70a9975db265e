use Rattle.std.proofs.Common.{◌≡◌, ◌-◌}
use Rattle.site_recovery.specs.Checking.{world_at}
use Rattle.site_recovery.proofs.Climbing.{reaches}
use Rattle.site_recovery.proofs.homeward.climbs.Given as goal

-- the rest of the climb decides
abbrev pub invariant-loop : goal.invariant-loop
invariant-loop l = (l.recall ≡ l.fn.recall) × (reaches (world_at l.sites) l.fn.recall (l.end - l.counter) l.here ≡ reaches (world_at l.sites) l.fn.recall l.end l.fn.site)
