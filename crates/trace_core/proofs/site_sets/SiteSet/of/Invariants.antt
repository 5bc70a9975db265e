use Rattle.std.proofs.Common.{◌≡◌, ◌↔◌, ℕ, true, take}
use Rattle.std.specs.List.{Contains}
use Rattle.trace_core.specs.SiteSets.{has_site}
use Rattle.trace_core.proofs.site_sets.SiteSet.of.Given as goal

-- the sites so far are in the set
abbrev pub invariant-loop-site : goal.invariant-loop-site
invariant-loop-site l = (t : ℕ) → has_site l.set t ≡ true ↔ Contains (take l.site-index l.sites) t
