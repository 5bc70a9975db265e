use Rattle.std.proofs.Common.{ℕ, ◌<◌, length}
use Rattle.site_recovery.specs.Checking.{world_at}
use Rattle.site_recovery.specs.FittingAt.{IsOneOf}
use Rattle.site_recovery.proofs.places.are_all_sites.Given as goal

-- the sites so far are in their places
abbrev pub invariant-loop-place : goal.invariant-loop-place
invariant-loop-place l = (s : ℕ) → s < l.place → IsOneOf (length l.sites) s (world_at l.sites s)
