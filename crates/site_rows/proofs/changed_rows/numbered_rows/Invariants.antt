use Rattle.std.proofs.Common.{◌≡◌, ◌+◌, ◌++◌, ◌≤◌, ℕ, List, drop, length, map}
use Rattle.std.specs.FinMap.{FinMap}
use Rattle.std.specs.List.{enumerate_from}
use Rattle.std.specs.Ordering.{nat_cmp}
use Rattle.frame_core.specs.Numbers.{Recall}
use Rattle.frame_core.specs.Outboxes.{numbered, row_for}
use Rattle.frame_core.specs.declared.rows.Row.{Row}
use Rattle.site_rows.specs.RecordRows.{outbox_row}
use Rattle.site_rows.proofs.changed_rows.numbered_rows.Given as goal

-- the rows so far with those of the messages left are all of them
abbrev pub invariant-loop-number : goal.invariant-loop-number
invariant-loop-number l = (l.from ≤ l.number) × ((before : FinMap nat_cmp Row) (r : Recall) (out : List (ℕ × List ℕ)) (k : ℕ)
    → l.state.engagement.outbox ≡ numbered before l.from r out → l.state.engagement.next_message ≡ l.from + length out → l.number ≡ l.from + k
    → l.rows.items ++ map outbox_row (enumerate_from l.number (map (row_for r) (drop k out))) ≡ map outbox_row (enumerate_from l.from (map (row_for r) out)))
