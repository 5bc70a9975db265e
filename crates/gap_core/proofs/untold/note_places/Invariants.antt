use Rattle.std.specs.List.{Contains}
use Rattle.trace_core.specs.Chains.{sites_at}
use Rattle.trace_core.proofs.Gathered.{Gathers}
use Rattle.gap_core.specs.Untold.{IsUntoldBy}
use Rattle.gap_core.proofs.untold.note_places.Given as goal

-- those to the places so far
abbrev pub invariant-loop-text : goal.invariant-loop-text
invariant-loop-text l = Gathers (IsUntoldBy (sites_at l.sites) l.own l.known l.reached l.at) l.outside.entries l.text-iterator (Contains l.fn.found.items) (Contains l.found.items)
