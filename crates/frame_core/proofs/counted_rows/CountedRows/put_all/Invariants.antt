use Rattle.std.proofs.Common.{◌≡◌, ◌+◌, ◌≤◌, drop, length, vec_capacity}
use Rattle.frame_core.specs.Counts.{CanUndo, undone}
use Rattle.frame_core.specs.Outboxes.{numbered}
use Rattle.frame_core.proofs.counted_rows.CountedRows.put_all.Given as goal

-- what is left to be put gives the rows that all do, and what was put can be undone
abbrev pub invariant-loop-dest : goal.invariant-loop-dest
invariant-loop-dest l = record {
  rows : numbered l.self.rows (l.first + l.dest-index) l.recall (drop l.dest-index l.out) ≡ numbered l.fn.self.rows l.first l.recall l.out;
  undone : undone l.self.rows l.first l.replaced.items ≡ l.fn.self.rows;
  can : CanUndo l.self l.first l.replaced.items;
  count : length l.replaced.items ≡ l.dest-index;
  room : length l.out ≤ vec_capacity l.replaced;
}
