use Rattle.std.proofs.Common.{◌≡◌, ◌++◌}
use Rattle.site_core.proofs.held_index.copy_recalls.Given as goal

abbrev pub invariant-loop-recall : goal.invariant-loop-recall
invariant-loop-recall l = l.copies.keys ++ l.recall-iterator ≡ l.recalls.keys
