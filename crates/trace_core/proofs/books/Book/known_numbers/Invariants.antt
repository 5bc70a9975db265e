use Rattle.std.proofs.Common.{take}
use Rattle.trace_core.specs.Numbers.{AreNumbersOf, numbered}
use Rattle.trace_core.proofs.books.Book.known_numbers.Given as goal

-- those of the items so far
abbrev pub invariant-loop-item : goal.invariant-loop-item
invariant-loop-item l = AreNumbersOf (numbered l.self) (take l.item-index l.items) l.numbers.items
