use Rattle.std.proofs.Common.{◌≡◌, ◌-◌}
use Rattle.frame_core.specs.Counts.{without_rows}
use Rattle.frame_core.proofs.counted_rows.CountedRows.take_from.Given as goal

-- what is left to be taken leaves what all of it does
abbrev pub invariant-loop-number : goal.invariant-loop-number
invariant-loop-number l = without_rows l.self.rows l.number (l.next - l.number) ≡ without_rows l.fn.self.rows l.first (l.next - l.first)
