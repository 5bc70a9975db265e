use Rattle.std.proofs.Common.{ℕ, List}
use Rattle.std.specs.List.{Contains}
use Rattle.std.specs.List.Sorted.{IsStrictlySortedBy}
use Rattle.std.specs.Vec.Iter.{into_iter_items}
use Rattle.frame_core.specs.Numbers.{Recall}
use Rattle.site_core.specs.Capturing.{IsBlockedBy}
use Rattle.site_core.specs.Quarantines.{item_cmp}
use Rattle.site_core.proofs.made_blocks.first_block.Given as goal

-- the items that are left are all from which the event is blocked
abbrev pub invariant-loop-item : goal.invariant-loop-item
invariant-loop-item l = record {
  can : (goal.iterator-loop-item).can_next l.item-iterator;
  finite : (goal.iterator-loop-item).is_finite l.item-iterator;
  ascend : IsStrictlySortedBy item_cmp (into_iter_items l.item-iterator);
  left : (i : List ℕ) (r : Recall) → IsBlockedBy l.captured l.quarantine l.event i r → Contains (into_iter_items l.item-iterator) i;
}
