use Rattle.std.proofs.Common.{◌≡◌}
use Rattle.site_core.specs.Holding.{without_items}
use Rattle.site_core.proofs.quarantines.Quarantine.release_items.Given as goal

-- what is left to be taken away leaves what all of it does
abbrev pub invariant-loop-item : goal.invariant-loop-item
invariant-loop-item l = without_items l.self l.recall l.items.items ≡ without_items l.fn.self l.recall l.fn.items.items

abbrev pub decreases-loop-item : goal.decreases-loop-item
decreases-loop-item l = goal.left-loop-item l
