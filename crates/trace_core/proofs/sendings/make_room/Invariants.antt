use Rattle.std.proofs.Common.{◌≡◌, ◌-◌, ℕ, suc}
use Rattle.std.specs.Vec.{vec_len}
use Rattle.trace_core.specs.Sendings.{set_at}
use Rattle.trace_core.specs.SiteSets.{has_site}
use Rattle.trace_core.proofs.sendings.make_room.Given as goal

-- no item has other sites
abbrev pub invariant-loop-sites : goal.invariant-loop-sites
invariant-loop-sites l = (n t : ℕ) → has_site (set_at l.sites.items n) t ≡ has_site (set_at l.initial.sites.items n) t

-- how many items come yet
abbrev pub decreases-loop-sites : goal.decreases-loop-sites
decreases-loop-sites l = suc l.item - vec_len l.sites
