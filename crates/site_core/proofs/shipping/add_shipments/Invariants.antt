use Rattle.std.proofs.Common.{ℕ, List, ◌↔◌}
use Rattle.std.specs.Vec.Iter.{into_iter_items}
use Rattle.site_core.proofs.Shipped.{WithPairs}
use Rattle.site_core.proofs.shipping.add_shipments.Given as goal

-- what is there with what is left is all
abbrev pub invariant-loop-pair : goal.invariant-loop-pair
invariant-loop-pair l = record {
  can : (goal.iterator-loop-pair).can_next l.pair-iterator;
  finite : (goal.iterator-loop-pair).is_finite l.pair-iterator;
  all : (t : ℕ) (i : List ℕ) → WithPairs l.found (into_iter_items l.pair-iterator) t i ↔ WithPairs l.initial.found (into_iter_items l.initial.pair-iterator) t i;
}
