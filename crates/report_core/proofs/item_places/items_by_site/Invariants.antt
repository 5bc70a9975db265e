use Rattle.std.proofs.Common.{take}
use Rattle.report_core.proofs.ItemsOfSites.{HaveItems}
use Rattle.report_core.proofs.item_places.items_by_site.Given as goal

-- those of the pairs so far
abbrev pub invariant-loop-pair : goal.invariant-loop-pair
invariant-loop-pair l = HaveItems l.sets.items l.count (take l.pair-index l.pairs)
