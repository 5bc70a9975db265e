use Rattle.std.specs.Prelude.{IsTrue}
use Rattle.std.specs.List.{Contains}
use Rattle.std.specs.List.Sorted.{IsStrictlySortedBy}
use Rattle.std.specs.Vec.Iter.{into_iter_items}
use Rattle.frame_core.specs.Identifiers.{recall_cmp}
use Rattle.frame_core.specs.Numbers.{Recall}
use Rattle.site_core.specs.Capturing.{IsBlockedBy}
use Rattle.site_core.specs.Quarantines.{held}
use Rattle.site_core.proofs.made_blocks.least_recall.Given as goal

-- the recalls that are left hold the item, and are all that block
abbrev pub invariant-loop-recall : goal.invariant-loop-recall
invariant-loop-recall l = record {
  can : (goal.iterator-loop-recall).can_next l.recall-iterator;
  finite : (goal.iterator-loop-recall).is_finite l.recall-iterator;
  ascend : IsStrictlySortedBy recall_cmp (into_iter_items l.recall-iterator);
  holds : (r : Recall) → Contains (into_iter_items l.recall-iterator) r → IsTrue (held l.quarantine r l.item);
  left : (r : Recall) → IsBlockedBy l.captured l.quarantine l.event l.item r → Contains (into_iter_items l.recall-iterator) r;
}
