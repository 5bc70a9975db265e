use Rattle.trace_core.specs.Chains.{sites_at}
use Rattle.gap_core.specs.Searches.{TellsSome}
use Rattle.gap_core.proofs.searches.tell_all.Given as goal

-- places so far are told
abbrev pub invariant-loop-to : goal.invariant-loop-to
invariant-loop-to l = TellsSome (sites_at l.sites) l.at l.turn l.fn.index l.index l.fn.waiting.items l.waiting.items l.to
