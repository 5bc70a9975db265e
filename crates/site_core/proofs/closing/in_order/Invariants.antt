use Rattle.std.proofs.Common.{◌≡◌, ◌++◌}
use Rattle.site_core.specs.ItemSets as set
use Rattle.site_core.proofs.closing.in_order.Given as goal

-- the items so far and the rest are all of them
abbrev pub invariant-loop-item : goal.invariant-loop-item
invariant-loop-item l = l.list.items ++ l.item-iterator ≡ set.items l.items
