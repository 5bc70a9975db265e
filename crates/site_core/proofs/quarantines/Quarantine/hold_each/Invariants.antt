use Rattle.std.proofs.Common.{◌≡◌, ◌≤◌, map, drop, length, vec_capacity}
use Rattle.site_core.specs.Holding.{without_items}
use Rattle.site_core.specs.Quarantines.{with_items, HasNoEmptySet}
use Rattle.site_core.proofs.quarantines.Quarantine.hold_each.Given as goal

-- what is left to be held gives what all of them do, and what was added can be taken away
abbrev pub invariant-loop-item : goal.invariant-loop-item
invariant-loop-item l = record {
  rest : with_items l.self l.recall (drop l.item-index l.items) ≡ with_items l.fn.self l.recall l.items;
  undone : without_items l.self l.recall (map (λ i. i.now) l.added.items) ≡ l.fn.self;
  full : HasNoEmptySet l.self;
  few : length l.added.items ≤ l.item-index;
  room : length l.items ≤ vec_capacity l.added;
}
