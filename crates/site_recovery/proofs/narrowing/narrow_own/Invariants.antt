use Rattle.std.proofs.Common.{ℕ, length}
use Rattle.scholten_core.specs.declared.own_recalls.Own.{Own}
use Rattle.trace_core.specs.Chains.{sites_at}
use Rattle.site_recovery.specs.Checking.{IsHeldWithin, world_at}
use Rattle.site_recovery.proofs.SitesLeft.{SoFar}
use Rattle.site_recovery.proofs.narrowing.narrow_own.Given as goal

-- the recalls so far
abbrev pub invariant-loop-number : goal.invariant-loop-number
invariant-loop-number l =
    SoFar (length l.sites) (λ (e : ℕ × Own). IsHeldWithin (world_at l.sites) (sites_at l.captured) (record { site = l.site; number = e.0 }) e.1.root) l.fn.own.entries l.fn.within.items l.number-iterator l.within.items
