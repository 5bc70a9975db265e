use Rattle.site_recovery.proofs.Gathering.{Gathered}
use Rattle.report_core.specs.Gathering.{IsIn, ItemTells}
use Rattle.report_core.proofs.gathering.add_of_items.Given as goal

-- those of the items so far
abbrev pub invariant-loop-item : goal.invariant-loop-item
invariant-loop-item l = Gathered (ItemTells l.containers.site.now.events l.site) l.items.keys l.item-iterator (IsIn l.fn.found) (IsIn l.found)
