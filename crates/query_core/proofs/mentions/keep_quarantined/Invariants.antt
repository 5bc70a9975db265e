use Rattle.std.specs.FinMap.{entries}
use Rattle.query_core.proofs.Keeping.{KeptSoFar, InSets}
use Rattle.query_core.proofs.mentions.keep_quarantined.Given as goal

-- with those that are left, all are kept
abbrev pub invariant-loop-items : goal.invariant-loop-items
invariant-loop-items l = KeptSoFar l.fn.counts l.counts (InSets l.items-iterator) (InSets (entries l.quarantine))
