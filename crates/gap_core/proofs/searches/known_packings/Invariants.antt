use Rattle.std.proofs.Common.{◌-◌, ◌^◌}
use Rattle.trace_core.specs.Chains.{sites_at}
use Rattle.gap_core.proofs.TellingSteps.{Searching}
use Rattle.gap_core.proofs.searches.known_packings.Given as goal

-- each place whose site may have more to tell waits
abbrev pub invariant-loop-turn : goal.invariant-loop-turn
invariant-loop-turn l = Searching (sites_at l.sites) l.index l.waiting.items l.turn

-- how many turns may be left
abbrev pub decreases-loop-turn : goal.decreases-loop-turn
decreases-loop-turn l = 2 ^ 64 - l.turn
