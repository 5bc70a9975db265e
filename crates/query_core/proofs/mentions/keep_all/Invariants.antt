use Rattle.site_core.specs.ItemSets as set
use Rattle.query_core.proofs.Keeping.{KeptSoFar, InList}
use Rattle.query_core.proofs.mentions.keep_all.Given as goal

-- with those that are left, all are kept
abbrev pub invariant-loop-item : goal.invariant-loop-item
invariant-loop-item l = KeptSoFar l.fn.counts l.counts (InList l.item-iterator) (InList (set.items l.items))
