use Rattle.std.proofs.Common.{◌≡◌, ◌+◌}
use Rattle.std.specs.Ordering.{nat_cmp}
use Rattle.frame_core.specs.Counts.{count_in}
use Rattle.frame_core.specs.Identifiers.{recall_cmp, same_recall}
use Rattle.frame_core.specs.Numbers.{Recall}
use Rattle.frame_core.specs.Outboxes.{rows_of}
use Rattle.frame_core.specs.Tables.{as_map}
use Rattle.frame_core.proofs.Deficits.{passing}
use Rattle.query_core.proofs.waiting.count_rows.Given as goal

-- the counts so far and those of the rows that are left make all
abbrev pub invariant-loop-row : goal.invariant-loop-row
invariant-loop-row l = (r : Recall) → count_in (as_map recall_cmp l.counts) r + passing (λ row. same_recall row.recall r) l.row-iterator
    ≡ count_in (as_map recall_cmp l.fn.counts) r + rows_of (as_map nat_cmp l.rows) r
