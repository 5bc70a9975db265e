use Rattle.std.proofs.Common.{◌≡◌, ◌++◌}
use Rattle.query_core.specs.Mentions.{told}
use Rattle.query_core.proofs.known_items.those_with.Given as goal

-- those so far and those of the rest are all of them
abbrev pub invariant-loop-item : goal.invariant-loop-item
invariant-loop-item l = l.items.items ++ told l.text l.item-iterator ≡ told l.text l.fn.counts.entries
