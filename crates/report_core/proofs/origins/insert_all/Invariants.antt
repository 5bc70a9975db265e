use Rattle.std.proofs.Common.{◌≡◌, ◌++◌}
use Rattle.std.specs.List.{Contains}
use Rattle.std.specs.Vec.Iter.{into_iter_items}
use Rattle.trace_core.specs.Pairs.{pair_cmp}
use Rattle.trace_core.specs.Searches.{IsFound}
use Rattle.report_core.specs.Sources.{AddsTo}
use Rattle.report_core.proofs.origins.insert_all.Given as goal

-- the pairs so far are added
abbrev pub invariant-loop-pair : goal.invariant-loop-pair
invariant-loop-pair l = record {
  added : AddsTo (IsFound pair_cmp l.fn.found) (IsFound pair_cmp l.found) (Contains l.yielded);
  parts : l.fn.pairs.items ≡ l.yielded ++ into_iter_items l.pair-iterator;
}
