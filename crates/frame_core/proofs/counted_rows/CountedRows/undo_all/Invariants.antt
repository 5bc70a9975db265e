use Rattle.std.proofs.Common.{◌≡◌, ◌+◌, ◌<◌, ◌^◌, length}
use Rattle.frame_core.specs.Counts.{CanUndo, undone}
use Rattle.frame_core.proofs.counted_rows.CountedRows.undo_all.Given as goal

-- what is left to be undone gives the rows that all does
abbrev pub invariant-loop-before : goal.invariant-loop-before
invariant-loop-before l = record {
  undone : undone l.self.rows l.first l.replaced.items ≡ undone l.fn.self.rows l.fn.first l.fn.replaced.items;
  can : CanUndo l.self l.first l.replaced.items;
  in_range : l.first + length l.replaced.items < 2 ^ 64;
}

abbrev pub decreases-loop-before : goal.decreases-loop-before
decreases-loop-before l = goal.left-loop-before l
