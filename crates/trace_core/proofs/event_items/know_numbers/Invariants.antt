use Rattle.std.proofs.Common.{◌≡◌, take}
use Rattle.trace_core.specs.Indexes.{KnowsItems}
use Rattle.trace_core.specs.Numbers.{names_of, numbers_of}
use Rattle.trace_core.proofs.event_items.know_numbers.Given as goal

-- the items so far have numbers, which stand in their order
abbrev pub invariant-loop-item : goal.invariant-loop-item
invariant-loop-item l = record {
  known : KnowsItems l.initial.known l.known (take l.item-index l.items);
  numbers : l.numbers ≡ numbers_of (names_of l.known) (take l.item-index l.items);
}
