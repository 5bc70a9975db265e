use Rattle.std.proofs.Common.{◌≡◌, ◌++◌}
use Rattle.site_recovery.proofs.Holding.{pairs_at}
use Rattle.site_recovery.specs.Recalls.{held_at}
use Rattle.site_recovery.proofs.recalls.add_held.Given as goal

-- what is added, and what is left to be added
abbrev pub invariant-loop-item : goal.invariant-loop-item
invariant-loop-item l = l.pairs.items ++ pairs_at l.site l.item-iterator ≡ l.fn.pairs.items ++ held_at l.fn.recall l.fn.state
