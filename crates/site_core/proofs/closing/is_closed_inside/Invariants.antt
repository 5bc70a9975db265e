use Rattle.std.specs.FinMap.{entries}
use Rattle.site_core.proofs.ClosedSets.{EntryIsClosed}
use Rattle.site_core.proofs.OneAfterAnother.{AllBut}
use Rattle.site_core.proofs.closing.is_closed_inside.Given as goal

-- the items of each recall before those to come are closed
abbrev pub invariant-loop-items : goal.invariant-loop-items
invariant-loop-items l = AllBut (EntryIsClosed l.captured) (entries l.quarantine) l.items-iterator
