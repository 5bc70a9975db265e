use Rattle.std.proofs.Common.{◌≡◌, ◌++◌, not, filter}
use Rattle.std.specs.Vec.Iter.{into_iter_items}
use Rattle.site_core.specs.Quarantines.{held}
use Rattle.site_core.proofs.spreading.not_held.Given as goal

-- the items so far and those of the rest that aren't held are all of them
abbrev pub invariant-loop-found : goal.invariant-loop-found
invariant-loop-found l = record {
  can : (goal.iterator-loop-found).can_next l.found-iterator;
  finite : (goal.iterator-loop-found).is_finite l.found-iterator;
  all : l.items.items ++ filter (λ j. not (held l.quarantine l.recall j)) (into_iter_items l.found-iterator) ≡ filter (λ j. not (held l.quarantine l.recall j)) (into_iter_items l.initial.found-iterator);
}
