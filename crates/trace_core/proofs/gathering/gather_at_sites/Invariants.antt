use Rattle.std.proofs.Common.{◌≡◌, ◌||◌}
use Rattle.trace_core.specs.declared.pairs.Pair.{Pair}
use Rattle.trace_core.specs.Gathering.{is_in, sent_to}
use Rattle.trace_core.specs.SiteSets.{sites_below}
use Rattle.trace_core.proofs.gathering.gather_at_sites.Given as goal

-- the item at the sites so far
abbrev pub invariant-loop-number : goal.invariant-loop-number
invariant-loop-number l = (p : Pair) → is_in l.pairs p ≡ (is_in l.initial.pairs p || sent_to l.me l.item (sites_below l.number l.sites) p)
