use Rattle.std.proofs.Common.{◌≡◌, take}
use Rattle.trace_core.proofs.books.Book.copy.Given as goal

-- the events so far
abbrev pub invariant-loop-event : goal.invariant-loop-event
invariant-loop-event l = l.copy ≡ take l.event-index l.event-items
