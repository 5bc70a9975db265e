use Rattle.std.proofs.Common.{Bor, drop, length}
use Rattle.std.specs.FinMap.{entries}
use Rattle.trace_core.specs.Chains.{sites_at}
use Rattle.site_core.specs.Records.{Record}
use Rattle.site_recovery.specs.Checking.{AreHeldWithin, world_at}
use Rattle.site_recovery.proofs.SitesLeft.{SoFar}
use Rattle.site_recovery.proofs.narrowing.sites_within.Given as goal

-- the recalls of the sites so far
abbrev pub invariant-loop-state : goal.invariant-loop-state
invariant-loop-state l =
    SoFar (length l.sites) (λ (x : Bor Record). AreHeldWithin (world_at l.sites) (sites_at l.captured.items) x.now.engagement.me (entries x.now.engagement.own)) l.sites l.initial.within.items (drop l.state-index l.sites) l.within.items
