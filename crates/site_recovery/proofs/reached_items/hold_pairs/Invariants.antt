use Rattle.std.proofs.Common.{◌≡◌}
use Rattle.std.specs.Vec.Iter.{into_iter_items}
use Rattle.site_recovery.proofs.ReachedItems.{SoFar}
use Rattle.site_recovery.proofs.reached_items.hold_pairs.Given as goal

-- the pairs so far were added
abbrev pub invariant-loop-pair : goal.invariant-loop-pair
invariant-loop-pair l = SoFar (λ pair r p. (r ≡ l.recall) × (p ≡ pair)) l.initial.reached.items l.fn.pairs.items (into_iter_items l.pair-iterator) l.reached.items
