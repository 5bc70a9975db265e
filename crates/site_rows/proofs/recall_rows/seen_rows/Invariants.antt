use Rattle.std.proofs.Common.{◌≡◌, ◌++◌, map}
use Rattle.std.specs.FinMap.{entries}
use Rattle.site_rows.specs.RecordRows.{seen_row}
use Rattle.site_rows.proofs.recall_rows.seen_rows.Given as goal

-- the rows so far and those of the rest are all of them
abbrev pub invariant-loop-message : goal.invariant-loop-message
invariant-loop-message l = l.rows.items ++ map seen_row l.message-iterator ≡ map seen_row (entries l.state.engagement.seen)
