use Rattle.std.proofs.Common.{◌≡◌, ◌++◌}
use Rattle.site_core.proofs.item_sets.copy_items.Given as goal

abbrev pub invariant-loop-item : goal.invariant-loop-item
invariant-loop-item l = l.copies.keys ++ l.item-iterator ≡ l.items.keys
