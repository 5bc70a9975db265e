use Rattle.std.proofs.Common.{◌≡◌, ◌++◌}
use Rattle.std.specs.Vec.Iter.{into_iter_items}
use Rattle.query_core.specs.Counted.{told_among}
use Rattle.query_core.proofs.known_items.those_counted.Given as goal

-- those so far and those of the rest are all of them
abbrev pub invariant-loop-item : goal.invariant-loop-item
invariant-loop-item l = l.known.items ++ told_among l.counts l.text (into_iter_items l.item-iterator) ≡ told_among l.counts l.text l.fn.items.items
