use Rattle.std.proofs.Common.{◌≡◌, ◌++◌}
use Rattle.site_core.proofs.held_index.copy_index.Given as goal

abbrev pub invariant-loop-item : goal.invariant-loop-item
invariant-loop-item l = l.copies.entries ++ l.item-iterator ≡ l.index.entries
