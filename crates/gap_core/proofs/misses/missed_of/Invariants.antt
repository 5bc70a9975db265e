use Rattle.std.proofs.Common.{[]}
use Rattle.std.specs.List.{Contains}
use Rattle.trace_core.proofs.Gathered.{Gathers}
use Rattle.gap_core.proofs.MissesLists.{IsNotIn}
use Rattle.gap_core.proofs.misses.missed_of.Given as goal

-- those of the pairs so far
abbrev pub invariant-loop-pair : goal.invariant-loop-pair
invariant-loop-pair l = Gathers (IsNotIn l.reached.told) l.reached.wide.keys l.pair-iterator (Contains []) (Contains l.found.items)
