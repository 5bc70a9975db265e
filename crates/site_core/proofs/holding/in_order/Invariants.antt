use Rattle.std.proofs.Common.{◌≡◌, ◌++◌}
use Rattle.site_core.proofs.holding.in_order.Given as goal

-- the recalls so far and the rest are all of them
abbrev pub invariant-loop-recall : goal.invariant-loop-recall
invariant-loop-recall l = l.out.items ++ l.recall-iterator ≡ l.recalls.keys
